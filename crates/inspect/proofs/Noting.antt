-- Entries that are noted one after another.
--     entered_append                 the entries of one list, then of another
--     entered_next                   one entry more
--     entered_most, entries_most     how often a link can have been seen after them
-- Assumes nothing.
use Prim.Native.Nat.{ℕ, ◌+◌, ◌*◌}
use mathlib.Core.Path.{◌≡◌, refl, sym, ap, ◌∙◌, subst}
use mathlib.Core.Bool.{◌&&◌, and_assoc}
use mathlib.Core.List.{List, [], ◌∷◌, ◌++◌}
use native.Mathlib.Omega.{arith}
use native.Mathlib.Nat.{suc-mul}
use native.Mathlib.Numerals.{add-one}
use lib.Dec.{leb, ltb}
use lib.ListN.{length, get_or, set}
use Rattle.rules.specs.Pool.{Entry}
use Rattle.tables.specs.Lie.{entries}
use Rattle.tables.proofs.Entered.{entry_in, length-entries}
use Rattle.clauses.specs.Entered.{Noted, place_of, entered, entered_all}
use Rattle.inspect.proofs.Most.{Most, most_more, most_raised}
use Rattle.tables.proofs.Rooms.{entries_next}

module _ (links records by : ℕ) where
  pub entered_append : (xs ys : List Entry) (x : Noted)
      → entered_all links records by (xs ++ ys) x ≡ entered_all links records by ys (entered_all links records by xs x)
  unfolding entered_all
  entered_append [] ys x = refl
  entered_append (e ∷ xs) ys x = entered_append xs ys (entered links records by e x)

  pub entered_most : (es : List Entry) (x : Noted) (b : ℕ) → Most b x.seen → Most (b + length es * by) (entered_all links records by es x).seen
  unfolding entered_all entered
  entered_most [] x b h = most_more x.seen (omega arith) h
  entered_most (e ∷ es) x b h =
      most_more (entered_all links records by es (entered links records by e x)).seen (omega (arith, suc-mul (length es) by))
      (entered_most es (entered links records by e x) (b + by) (most_raised b (b + by) x.seen _ by (omega arith) h))

  pub entries_most : (k : ℕ) (list : List ℕ) (start : Noted) (b : ℕ) {x : Noted}
      → entered_all links records by (entries k list) start ≡ x → Most b start.seen → Most (b + k * by) x.seen
  entries_most k list start b {x} e h =
      subst (λ (n : ℕ). Most (b + n * by) x.seen) (length-entries k list)
      (subst (λ (y : Noted). Most (b + length (entries k list) * by) y.seen) e (entered_most (entries k list) start b h))

  -- entry k of a room, behind the k entries before it
  pub entered_next : (list : List ℕ) (k : ℕ) (start : Noted) {x : Noted} {many link old place : ℕ}
      → entered_all links records by (entries k list) start ≡ x
      → many ≡ links → link ≡ get_or list (k * 2) 0 → old ≡ get_or list (k * 2 + 1) 0 → place ≡ place_of link
      → entered_all links records by (entries (k + 1) list) start
      ≡ record { ok = x.ok && (ltb link many && leb old records); seen = set x.seen place (get_or x.seen place 0 + by); last = set x.last place old }
  unfolding entered_all entered
  entered_next list k start {x} {many} {link} {old} h same first second at =
      ap (λ (n : ℕ). entered_all links records by (entries n list) start) (add-one k)
      ∙ ap (λ es. entered_all links records by es start) (entries_next k list)
      ∙ entered_append (entries k list) (entry_in list k ∷ []) start
      ∙ ap (entered_all links records by (entry_in list k ∷ [])) h
      ∙ (λ j. entered links records by (record { link = record { 0 = sym first j }; old = record { 0 = sym second j } }) x)
      ∙ (λ j.
      record {
        ok = (ap (λ (m : ℕ). x.ok && ltb link m && leb old records) (sym same) ∙ and_assoc x.ok (ltb link many) (leb old records)) j;
        seen = set x.seen (sym at j) (get_or x.seen (sym at j) 0 + by);
        last = set x.last (sym at j) old;
      })
