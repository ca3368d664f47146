-- What phase 5 changes of a pool, and the tables of the pool after it.
--     rises-written, counted-written     a count rises; one falls and another rises, for an entry
--     emptied-written                    the history is emptied
-- Assumes nothing.
use Prim.Native.Nat.{ℕ, ◌*◌, ◌≤◌}
use mathlib.Core.Path.{◌≡◌, refl, sym, ap, ◌∙◌}
use mathlib.Core.List.{[], ◌++◌, map}
use lib.ListN.{length, drop, set, replicate, length-map}
use lib.Seq.{set_at}
use Rattle.rules.specs.declared.Sizes.{Sizes}
use Rattle.rules.specs.declared.RecordNumber.{RecordNumber}
use Rattle.rules.specs.Size.{links}
use Rattle.rules.specs.Pool.{Entry, Pool, with_history}
use Rattle.rules.specs.View.{view_value}
use Rattle.rules.specs.Collect.{falls, rises, counted}
use Rattle.tables.specs.Tables.{Tables, put_counts, put_candidates, put_history, put_lengths}
use Rattle.tables.specs.Lie.{tables_of}
use Rattle.tables.specs.Counted.{fewer, fallen, more}
use Rattle.tables.proofs.Entered.{laid-emptied}
use Rattle.tables.proofs.Written.{falls-written}

-- "the count .. rises by 1"
pub rises-written : (s : Sizes) (p : Pool) (a : RecordNumber) → let t : Tables = tables_of s p in tables_of s (rises a p) ≡ put_counts (more a.0 t.counts) t
unfolding tables_of rises more
rises-written s p a = refl

-- "first the count of old falls by 1, and at 0 it becomes a candidate; then the count of the link's view value rises by 1"
pub counted-written : (s : Sizes) (p : Pool) (e : Entry) → e.old.0 ≤ length p.records.candidate → let t : Tables = tables_of s p in
    tables_of s (counted e p)
    ≡ put_counts (more (view_value p e.link).0 (fewer e.old.0 t.counts)) (put_candidates (fallen e.old.0 t.counts t.candidates) t)
unfolding counted falls view_value
counted-written s p e low =
    rises-written s (falls e.old p) (view_value p e.link)
    ∙ ap (λ (t : Tables). put_counts (more (view_value p e.link).0 t.counts) t) (falls-written s p e.old low)

-- "the history is emptied"
pub emptied-written : (s : Sizes) (p : Pool) → length p.workers.log ≡ s.w → length p.history ≤ links s → let t : Tables = tables_of s p in
    let n : ℕ = length p.history in
    tables_of s (with_history [] p) ≡ put_history (replicate (n * 2) 0 ++ drop (n * 2) t.history) (put_lengths (set t.lengths s.w 0) t)
unfolding tables_of
emptied-written s p logs low =
    λ j.
    put_history (laid-emptied (links s) p.history low j)
    (put_lengths (sym (set_at (map length p.workers.log) (length p.history) [] 0 s.w (length-map p.workers.log length ∙ logs)) j) (tables_of s p))
