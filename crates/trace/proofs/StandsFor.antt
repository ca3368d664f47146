-- A whole trace on packed tables with unused bits 0, and on the old ones that they stand for: equal answers, and tables that stand for equal tables (document 02,
-- request 9).
--     same_exact      the same sizes are taken
--     traced_same     the call
-- Assumes nothing.
use Prim.Native.Nat.{ℕ, ◌+◌, ◌*◌}
use mathlib.Core.Path.{◌≡◌, refl, sym, ap, ◌∙◌}
use mathlib.Core.Bool.{Bool, true, false, ◌&&◌}
use mathlib.Core.List.{List}
use borrow.Author.Tests.{eqb-true}
use lib.Dec.{eqb}
use lib.ListN.{length}
use Rattle.rules.specs.declared.Sizes.{Sizes}
use Rattle.rules.specs.declared.Collector.{Collector}
use Rattle.rules.specs.Size.{links}
use Rattle.rules.specs.Pool.{Pool, fresh}
use Rattle.rules.specs.Outcome.{after}
use Rattle.rules.specs.Sound.{Sound}
use Rattle.laws.proofs.Runs.{run_keeps}
use Rattle.soundness.proofs.Kept.{fresh_is_sound, event_keeps_sound}
use Rattle.tables.specs.Bits.{word_count, marks_in}
use Rattle.tables.specs.Tables.{Tables, put_used, put_held, put_candidates, put_changed}
use Rattle.tables.specs.Lie.{bits, room, tables_of}
use Rattle.tables.specs.Known.{Exact}
use Rattle.fresh.specs.Fits.{is_exact}
use Rattle.fresh.proofs.Exact.{exact_tells}
use Rattle.events.specs.Old.{old_tables_of, old_exact, stands_for, PackedWords}
use Rattle.events.proofs.StandsFor.{same_length, same_tables}
use Rattle.trace.specs.Replay.{Left, untouched, Replayed, replayed}
use Rattle.trace.specs.Stretch.{put}
use Rattle.trace.specs.Traced.{Traced, traced_by, traced}
use Rattle.trace.specs.Promise.{events_of, Shown, a_run, nothing_touched}
use Rattle.trace.specs.Old.{old_traced_by, old_traced, old_trace}
use Rattle.trace.proofs.Promised.{every_trace}

-- ---- the sizes that are taken

none_of : (b : Bool) → (b && false) ≡ false
none_of true = refl
none_of false = refl

-- the marks of records are asked about together with their counts, those of links with their values
asked : (b d : Bool) {u h c x u' h' c' x' : Bool} (m : Bool) → (b ≡ true → (u ≡ u') × (h ≡ h') × (c ≡ c')) → (d ≡ true → x ≡ x')
    → (u && b && h && c && m && d && x) ≡ (u' && b && h' && c' && m && d && x')
asked true true m records linked = let same = records refl in λ j. same.0 j && true && same.1 j && same.2 j && m && true && linked refl j
asked true false {u} {h} {c} {x} {u'} {h'} {c'} {x'} m records linked =
    ap (λ (b : Bool). b && x) (none_of (u && true && h && c && m)) ∙ sym (ap (λ (b : Bool). b && x') (none_of (u' && true && h' && c' && m)))
asked false d {u} {h} {c} {x} {u'} {h'} {c'} {x'} m records linked =
    ap (λ (b : Bool). b && h && c && m && d && x) (none_of u) ∙ sym (ap (λ (b : Bool). b && h' && c' && m && d && x') (none_of u'))

module _ {s : Sizes} {t : Tables} (packed : PackedWords s t) (counted : length t.counts ≡ s.n) (valued : length t.values ≡ links s) where
  module _ (z : Sizes) where
    same_records : eqb (length t.counts) z.n ≡ true
        → (eqb (length (bits (marks_in s.n t.used))) z.n ≡ eqb (length t.used) (word_count z.n))
        × (eqb (length (bits (marks_in s.n t.held))) z.n ≡ eqb (length t.held) (word_count z.n))
        × (eqb (length (bits (marks_in s.n t.candidates))) z.n ≡ eqb (length t.candidates) (word_count z.n))
    same_records h =
        let same : z.n ≡ s.n = sym (eqb-true (length t.counts) z.n h) ∙ counted in
        (same_length packed.used z.n same, same_length packed.held z.n same, same_length packed.candidates z.n same)

    same_links : eqb (length t.values) (links z) ≡ true
        → eqb (length (bits (marks_in (links s) t.changed))) (links z) ≡ eqb (length t.changed) (word_count (links z))
    same_links h = same_length packed.changed (links z) (sym (eqb-true (length t.values) (links z) h) ∙ valued)

    pub same_exact : old_exact z (stands_for s t) ≡ is_exact z t
    unfolding old_exact stands_for is_exact
    same_exact =
        λ j.
        asked (eqb (length t.counts) z.n) (eqb (length t.values) (links z)) (eqb (length t.makers) z.n) same_records same_links j
        && eqb (length t.registers) (z.w * z.r + 1)
        && eqb (length t.snoops) z.w
        && eqb (length t.logs) (z.w * room z)
        && eqb (length t.history) (room z)
        && eqb (length t.lengths) (z.w + 1)

    -- the tables of a pool of sizes that are taken
    same_left : is_exact z t ≡ true → (q : Pool) → Sound z q → stands_for s (tables_of z q) ≡ old_tables_of z q
    unfolding stands_for
    same_left taken q sound =
        let exact : Exact z t = exact_tells z t taken in
        let n : s.n ≡ z.n = sym counted ∙ exact.counts in
        let l : links s ≡ links z = sym valued ∙ exact.values in
        let x : Tables = tables_of z q in
        (λ j.
        put_used (bits (marks_in (n j) x.used))
        (put_held (bits (marks_in (n j) x.held)) (put_candidates (bits (marks_in (n j) x.candidates)) (put_changed (bits (marks_in (l j) x.changed)) x))))
        ∙ same_tables z q sound

  -- ---- the call

  module _ (c : Collector) (bytes answers : List ℕ) where
    abbrev takes : Sizes → Bool
    takes z = is_exact z t

    abbrev x : Replayed
    x = replayed takes bytes

    -- both, by what the replay leaves
    abbrev old_leaves : Left → Traced
    old_leaves left = old_traced_by (stands_for s t) c answers (record { lines = x.lines; ending = x.ending; left = left })

    abbrev leaves : Left → Traced
    leaves left = old_trace s (traced_by t c answers (record { lines = x.lines; ending = x.ending; left = left }))

    leaves_same : Shown takes bytes → old_leaves x.left ≡ leaves x.left
    unfolding traced_by
    leaves_same (a_run z run) =
        let q : Pool = after z (fresh z) (events_of bytes) in
        let sound : Sound z q = run_keeps z (Sound z) (event_keeps_sound z run.range) (fresh z) (fresh_is_sound z) (events_of bytes) in
        ap old_leaves run.left
        ∙ (λ j.
        record {
          replay = record { ending = x.ending; events = length x.lines; collector = q.collector };
          tables = sym (same_left z run.taken q sound) j;
          answers = put answers x.lines;
        })
        ∙ sym (ap leaves run.left)
    leaves_same (nothing_touched why run) = let left : x.left ≡ untouched = ap (λ (r : Replayed). r.left) run in ap old_leaves left ∙ sym (ap leaves left)

    pub traced_same : old_traced (stands_for s t) c bytes answers ≡ old_trace s (traced t c bytes answers)
    unfolding old_traced traced
    traced_same =
        ap (λ (takes : Sizes → Bool). old_traced_by (stands_for s t) c answers (replayed takes bytes)) (λ j z. same_exact z j) ∙ leaves_same (every_trace takes bytes)
