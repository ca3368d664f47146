-- `worker::link_takes` meets its contract: it is `link_taken`, part by part, and the log has room for the entry. Assumes nothing.
use Prim.Native.Nat.{ℕ, ◌+◌, ◌*◌}
use mathlib.Core.Path.{◌≡◌, sym, ap, ◌∙◌}
use native.Mathlib.Omega.{arith}
use lib.ListN.{get_or, set}
use Rattle.tables.specs.Tables.{Tables, put_held, put_values}
use Rattle.tables.specs.Bits.{mark_at}
use Rattle.tables.specs.Lie.{record_number}
use Rattle.worker.specs.Lent.{stores_on, logged_on, held_after, link_taken}
use Rattle.worker.proofs.Events.{register_low}
use Rattle.worker.proofs.Store.{room-stands}
use Rattle.worker.proofs.link_takes.Goals as goal
use Rattle.worker.proofs.link_takes.Goals.{After-register_place-from}

-- what the link takes is what the register holds
taken : (c : After-register_place-from) → let registers = c.args.registers.now in
    get_or registers c.register_place-from.result 0 ≡ get_or registers (c.args.w * c.args.s.r + c.args.r) 0
taken c = ap (λ (i : ℕ). get_or c.args.registers.now i 0) (c.register_place-from.ensures.0 ∙ (λ j. c.from.ensures j * c.args.s.r + c.from-2.ensures j))

pub logged-requires : goal.logged-requires
logged-requires c =
    let known = c.requires.0.2 in
    let mark : c.is_on-marked.result ≡ mark_at c.args.changed.now c.args.l.0 = c.is_on-marked.ensures ∙ ap (mark_at c.args.changed.now) c.from-link.ensures in
    record {
      sizes = known.sizes;
      worker = c.requires.1;
      link = omega (arith, c.requires.3, known.exact.changed);
      logs = known.exact.logs;
      lengths = omega (arith, c.requires.1, known.exact.lengths);
      mark = mark;
      free = λ off. room-stands known c.args.w c.args.l c.requires.1 c.requires.3 (sym mark ∙ off);
    }

pub snooped-requires : goal.snooped-requires
snooped-requires c =
    let at = c.args in
    let known = c.requires.0.2 in (
      omega (arith, c.requires.1, known.exact.snoops),
      omega (arith, register_low known at.w at.r c.requires.1 c.requires.2, known.exact.held, taken (goal.at.snooped-requires c).After-register_place-from),
    )

pub returns : goal.returns
unfolding link_taken
returns c =
    let at = c.args in
    let link = c.from-link.ensures in
    let new = taken (goal.at.returns c).After-register_place-from in
    let here : Tables → Tables = stores_on at.held.now at.values.now at.changed.now at.registers.now at.snoops.now at.logs.now at.lengths.now in (
      ap (λ (i : ℕ). record_number (get_or at.values.now i 0)) link,
      λ t j.
          put_held ((c.snooped.ensures ∙ (λ i. held_after at.w (record_number (new i)) at.snoops.now at.held.now)) j)
          (put_values (set at.values.now (link j) (new j))
          ((c.logged.ensures (here t) ∙ (λ i. logged_on at.s at.w at.l (record_number (get_or at.values.now (link i) 0)) (here t))) j)),
    )
