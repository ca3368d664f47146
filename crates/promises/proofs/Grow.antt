-- What only grows keeps the invariant.
--     kept_grows        the kept records stay kept where held marks and makers grow and view values stay
--     raised            a pool with other counts, held marks and snoop flags, and another collector's record
--     named_raised, since_raised, phased_raised     the invariant of it, where the held marks grow
--     free_falls        a count that falls makes no free record a candidate
-- Assumes nothing.
use Prim.Native.Nat.{ℕ, ◌≤◌, ◌<◌}
use mathlib.Core.Path.{◌≡◌, refl, sym, ap, ◌∙◌}
use mathlib.Core.Logic.{⊎_elim}
use mathlib.Core.Bool.{Bool, true, false, true≢false}
use mathlib.Core.List.{List}
use native.Mathlib.Omega.{arith}
use lib.ListN.{get_or}
use Rattle.rules.specs.declared.Sizes.{Sizes}
use Rattle.rules.specs.declared.RecordNumber.{RecordNumber}
use Rattle.rules.specs.declared.LinkNumber.{LinkNumber}
use Rattle.rules.specs.declared.Collector.{Collector}
use Rattle.rules.specs.Size.{link_number, board_number}
use Rattle.rules.specs.Pool.{Pool, of_record, used_at, held_at, candidate_at, maker_at, value_at, log_at}
use Rattle.rules.specs.View.{all_logs, view_value}
use Rattle.rules.specs.Collect.{falls}
use Rattle.laws.proofs.Number.{record_same}
use Rattle.laws.proofs.Lists.{Each-map}
use Rattle.laws.proofs.Marks.{on_some, falls_cases}
use Rattle.promises.proofs.Invariant.{Used, Kept, by_held, by_maker, by_board, by_view, Since, Named, Phased, snoops_in}

pub kept_grows : {s : Sizes} (p q : Pool) {a : RecordNumber}
    → ((b : RecordNumber) → held_at p b ≡ true → held_at q b ≡ true)
    → ((b : RecordNumber) → 1 ≤ maker_at p b → 1 ≤ maker_at q b)
    → ((l : LinkNumber) → view_value q l ≡ view_value p l)
    → Kept s p a → Kept s q a
kept_grows p q h m v (by_held {a = a} x) = by_held (h a x)
kept_grows p q h m v (by_maker {a = a} x) = by_maker (m a x)
kept_grows {s} p q h m v (by_board e k x some) = by_board e k (v (board_number s e) ∙ x) some
kept_grows {s} p q h m v (by_view {a = a} f x k e some) = by_view f (kept_grows p q h m v x) k (v (link_number s a f) ∙ e) some

abbrev pub raised : Pool → List ℕ → List Bool → List Bool → Collector → Pool
raised p count held snoop c =
    record {
      records =
          record { used = p.records.used; count = count; held = held; candidate = p.records.candidate; maker = p.records.maker };
      links = p.links;
      workers = record { registers = p.workers.registers; snoop = snoop; log = p.workers.log };
      last = p.last;
      history = p.history;
      collector = c;
    }

module _ {s : Sizes} {p : Pool} (count : List ℕ) (held : List Bool) (snoop : List Bool) (c : Collector) where
  pub named_raised : Named s p → Named s (raised p count held snoop c)
  unfolding all_logs
  named_raised n =
      record {
        registers = n.registers;
        values = n.values;
        logs = n.logs;
        history = n.history;
        free_candidate = n.free_candidate;
        free_maker = n.free_maker;
        free_links = n.free_links;
      }

  module _ (grows : (a : RecordNumber) → held_at p a ≡ true → of_record held a.0 false ≡ true) where
    pub since_raised : {k : ℕ} {a : RecordNumber} → Since s p k a → Since s (raised p count held snoop c) k a
    unfolding all_logs view_value
    since_raised {k} {a} x =
        record {
          candidate = λ h. grows a (x.candidate h);
          history = x.history;
          value = λ q l h. grows a (x.value q l h);
          view = λ l q h. grows a (x.view l q h);
          marked = x.marked;
          log = x.log;
        }

    pub kept_raised : {a : RecordNumber} → Kept s p a → Kept s (raised p count held snoop c) a
    unfolding view_value
    kept_raised x = kept_grows p (raised p count held snoop c) grows (λ b h. h) (λ l. refl) x

    pub phased_raised : {k i : ℕ} → ((w : ℕ) → w < s.w → get_or snoop w false ≡ snoops_in k i w) → Phased s p k i → Phased s (raised p count held snoop c) k i
    phased_raised flags x =
        record {
          snoop = flags;
          logged = λ l m w h. Each-map (log_at p w) (λ e q some. grows (value_at p e.link) (q some)) (x.logged l m w h);
          since = λ a w e h. since_raised (x.since a w e h);
          scanned = λ l w r h some. kept_raised (x.scanned l w r h some);
          marked = λ l m h e some. kept_raised (x.marked l m h e some);
        }

-- ---- a count that falls

-- where only used records' counts fall, no free record becomes a candidate
pub free_falls : (p : Pool) (x : RecordNumber) → Used p x → ((a : RecordNumber) → used_at p a ≡ false → candidate_at p a ≡ false)
    → (a : RecordNumber) → used_at p a ≡ false → candidate_at (falls x p) a ≡ false
free_falls p x used free a h =
    ⊎_elim
    (λ same. same ∙ free a h)
    (λ here.
    let some : 1 ≤ a.0 = on_some (falls x p).records.candidate a.0 here.1 in
    absurd (true≢false (sym (used (let e = here.0 in omega arith)) ∙ ap (λ (b : RecordNumber). used_at p b) (record_same x a (sym here.0)) ∙ h)))
    (falls_cases x a p)
