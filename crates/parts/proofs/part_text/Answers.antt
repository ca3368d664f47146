-- `parts::part_text` meets its contract: the answers of the events have room, since an event has at least 7 bytes, and their text is that of the part's lines. Assumes
-- nothing.
use Prim.Native.Nat.{◌*◌, ◌≤◌}
use mathlib.Core.Path.{refl, sym, ap, ◌∙◌}
use native.Mathlib.Omega.{arith}
use lib.ListN.{length, take}
use lib.Seq.{length-take-le}
use Rattle.std.proofs.Common.{rules}
use Rattle.tables.specs.Lent.{contents}
use Rattle.text.specs.Text.{lines_text}
use Rattle.trace.specs.Stretch.{put}
use Rattle.parts.specs.Begun.{whole_work}
use Rattle.parts.proofs.Most.{events_most}
use Rattle.parts.proofs.First.{whole_lines}
use Rattle.parts.proofs.Lines.{part_lines, lines_kept, answers_told}
use Rattle.parts.proofs.part_text.Goals as goal
use Rattle.parts.proofs.part_text.Goals.{After-part_told-part}

-- an event has at least 7 bytes, so that the answers have room
module _ (c : After-part_told-part) where
  few : c.part_told-part.result.events * 7 ≤ length c.args.bytes.now
  few = events_most c.args.x (contents c.args.t.now) c.args.last c.args.bytes.now c.part_told-part.ensures.takes

  fits : c.part_told-part.result.events * 2 ≤ length c.args.answers.now
  fits = omega (arith, few, c.requires.has_room.answers)

pub slice_bounds-put_lines-end : goal.slice_bounds-put_lines-end
slice_bounds-put_lines-end c = let fits = fits (goal.at.slice_bounds-put_lines-end c).After-part_told-part in search rules

pub slice_bounds-put_lines-end-2 : goal.slice_bounds-put_lines-end-2
slice_bounds-put_lines-end-2 c = sym (length-take-le _ _ (slice_bounds-put_lines-end c))

pub put_lines-size-requires : goal.put_lines-size-requires
put_lines-size-requires c =
    let size = sym (slice_bounds-put_lines-end-2 c) in
    record {
      events_behind = (c.part_told-part.result.events, size, omega (arith, c.part_told-part.ensures.takes.step, c.part_told-part.type_inv));
      answers_in_bounds = omega (arith, size, few (goal.at.put_lines-size-requires c).After-part_told-part, c.requires.has_room.lines);
    }

pub returns-clause-text : goal.returns-clause-text
returns-clause-text c =
    let takes = c.part_told-part.ensures.takes in
    let told =
    ap (λ z. z.answers) c.part_told-part.ensures.told
    ∙ answers_told (whole_work c.args.x (contents c.args.t.now) c.args.last c.args.bytes.now) c.args.x.reader.step _ refl in
    let name = sym (ap (λ r. r.ghost_name) told) in
    let put_there = ap (λ r. r.now) told ∙ ap (put c.args.answers.now) (sym (whole_lines c.requires.set c.args.last c.args.bytes.now)) in
    record {
      stood = takes.stood;
      left = takes.left;
      set = takes.set;
      lines =
          lines_kept c.args.x.reader.step (c.part_told-part.result.events * 2) c.put_lines-size.ensures (search rules)
          (ap (λ filled. lines_text c.args.x.reader.step (take (c.part_told-part.result.events * 2) filled)) put_there
          ∙ part_lines takes c.args.answers.now (fits (goal.at.returns-clause-text c).After-part_told-part));
    }
