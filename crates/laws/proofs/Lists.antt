-- Laws on lists that speak of no pool.
--     flatten-set                             a list of lists joined, taken apart at one of them that is written
--     length-flatten                          one of them is no longer than all joined
--     Each-append, Each-left, Each-right, Each-at, Each-all, Each-flatten, Each-flatten-set, Each-map, Each-map₂, Each-set, Each-places     what holds of each element
--     set_cases                               a table of which one place is written
--     of_record_same, of_record_other, with_record_cases, length-with_record     a table of the records, with another thing for one record
--     map-set, map-with_record, map_at         a table mapped
--     length_zipped, length-zip_with, zip_with_at, get_d_zip_with     a table made of two
--     set_keeps, set_keeps_below, set_next, map_keeps, with_record_keeps, map-of_record_keeps     what holds at every place of a table
-- Assumes nothing.
use Prim.Native.Nat.{ℕ, zero, suc, ◌≤◌, ◌<◌, zero-le, suc-le-suc}
use mathlib.Core.Path.{◌≡◌, refl, sym, ap, ◌∙◌, subst}
use mathlib.Core.Logic.{◌⊎◌, inl, inr, ⊎_elim}
use mathlib.Core.List.{List, [], ◌∷◌, ◌++◌, flatten, append_assoc, map, zip_with}
use native.Mathlib.Omega.{arith}
use native.Mathlib.Nat.{eq-or-lt_of_le, le_of_suc-le-suc, not-suc-le-zero}
use lib.ListN.{length, get_or, take, drop, set, length-append, length-set}
use lib.Seq.{get_or-set_same, get_or-set_other}
use Rattle.rules.specs.Pool.{of_record, with_record}
use Rattle.rules.specs.Sound.{Each}

-- ---- a list of lists joined

module _ {A : Type 0} where
  pub flatten-set : (ls : List (List A)) (w : ℕ) (xs : List A) → w < length ls → flatten (set ls w xs) ≡ flatten (take w ls) ++ (xs ++ flatten (drop (suc w) ls))
  unfolding flatten
  flatten-set [] w xs h = absurd (not-suc-le-zero h)
  flatten-set (x ∷ ls) zero xs h = refl
  flatten-set (x ∷ ls) (suc w) xs h = ap (λ t. x ++ t) (flatten-set ls w xs (le_of_suc-le-suc h)) ∙ sym (append_assoc x _ _)

  pub length-flatten : (ls : List (List A)) (w : ℕ) → length (get_or ls w []) ≤ length (flatten ls)
  unfolding flatten
  length-flatten [] w = zero-le
  length-flatten (x ∷ ls) zero = omega (arith, length-append x (flatten ls))
  length-flatten (x ∷ ls) (suc w) = omega (arith, length-append x (flatten ls), length-flatten ls w)

-- ---- what holds of each element

module _ {A : Type 0} (P : A → Type 0) where
  pub Each-append : (xs ys : List A) → Each P xs → Each P ys → Each P (xs ++ ys)
  Each-append [] ys h k = k
  Each-append (x ∷ xs) ys h k = (h.0, Each-append xs ys h.1 k)

  pub Each-left : (xs ys : List A) → Each P (xs ++ ys) → Each P xs
  Each-left [] ys h = tt
  Each-left (x ∷ xs) ys h = (h.0, Each-left xs ys h.1)

  pub Each-right : (xs ys : List A) → Each P (xs ++ ys) → Each P ys
  Each-right [] ys h = h
  Each-right (x ∷ xs) ys h = Each-right xs ys h.1

  pub Each-at : (xs : List A) (i : ℕ) (d : A) → i < length xs → Each P xs → P (get_or xs i d)
  Each-at [] i d l h = absurd (not-suc-le-zero l)
  Each-at (x ∷ xs) zero d l h = h.0
  Each-at (x ∷ xs) (suc i) d l h = Each-at xs i d (le_of_suc-le-suc l) h.1

  -- where each list of some has it, so has all of them joined
  pub Each-all : (ls : List (List A)) → ((w : ℕ) → w < length ls → Each P (get_or ls w [])) → Each P (flatten ls)
  unfolding flatten
  Each-all [] h = tt
  Each-all (x ∷ ls) h = Each-append x (flatten ls) (h zero (suc-le-suc zero-le)) (Each-all ls (λ w k. h (suc w) (suc-le-suc k)))

  pub Each-flatten : (ls : List (List A)) (w : ℕ) → Each P (flatten ls) → Each P (get_or ls w [])
  unfolding flatten
  Each-flatten [] w h = tt
  Each-flatten (x ∷ ls) zero h = Each-left x (flatten ls) h
  Each-flatten (x ∷ ls) (suc w) h = Each-flatten ls w (Each-right x (flatten ls) h)

  pub Each-flatten-set : (ls : List (List A)) (w : ℕ) (xs : List A) → Each P (flatten ls) → Each P xs → Each P (flatten (set ls w xs))
  unfolding flatten
  Each-flatten-set [] w xs h k = h
  Each-flatten-set (x ∷ ls) zero xs h k = Each-append xs (flatten ls) k (Each-right x (flatten ls) h)
  Each-flatten-set (x ∷ ls) (suc w) xs h k =
      Each-append x (flatten (set ls w xs)) (Each-left x (flatten ls) h) (Each-flatten-set ls w xs (Each-right x (flatten ls) h) k)

-- what holds of each element gives what it implies
pub Each-map : {A : Type 0} {P Q : A → Type 0} (xs : List A) → ((x : A) → P x → Q x) → Each P xs → Each Q xs
Each-map [] f h = tt
Each-map (x ∷ xs) f h = (f x h.0, Each-map xs f h.1)

pub Each-map₂ : {A : Type 0} {P Q R : A → Type 0} (xs : List A) → ((x : A) → P x → Q x → R x) → Each P xs → Each Q xs → Each R xs
Each-map₂ [] f h k = tt
Each-map₂ (x ∷ xs) f h k = (f x h.0 k.0, Each-map₂ xs f h.1 k.1)

-- where an element is written that has it
pub Each-set : {A : Type 0} (P : A → Type 0) (xs : List A) (i : ℕ) (x : A) → Each P xs → P x → Each P (set xs i x)
Each-set P [] i x h k = tt
Each-set P (y ∷ xs) zero x h k = (k, h.1)
Each-set P (y ∷ xs) (suc i) x h k = (h.0, Each-set P xs i x h.1 k)

-- what holds at every place of a list holds of each element
pub Each-places : {A : Type 0} (P : A → Type 0) (d : A) (xs : List A) → ((i : ℕ) → i < length xs → P (get_or xs i d)) → Each P xs
Each-places P d [] h = tt
Each-places P d (x ∷ xs) h = (h zero (suc-le-suc zero-le), Each-places P d xs (λ i k. h (suc i) (suc-le-suc k)))

-- ---- one place of a table

module _ {A : Type 0} where
  -- where a place is written, every place has what it had, or is the place written and has what is written
  pub set_cases : (xs : List A) (i : ℕ) (x : A) (j : ℕ) (d : A) → (get_or (set xs i x) j d ≡ get_or xs j d) ⊎ ((j ≡ i) × (get_or (set xs i x) j d ≡ x))
  set_cases [] i x j d = inl refl
  set_cases (y ∷ xs) zero x zero d = inr (refl, refl)
  set_cases (y ∷ xs) zero x (suc j) d = inl refl
  set_cases (y ∷ xs) (suc i) x zero d = inl refl
  set_cases (y ∷ xs) (suc i) x (suc j) d = ⊎_elim inl (λ e. inr (ap suc e.0, e.1)) (set_cases xs i x j d)

-- ---- a table of the records

module _ {A : Type 0} where
  pub of_record_same : (table : List A) (i : ℕ) (x d : A) → 1 ≤ i → i ≤ length table → of_record (with_record table i x) i d ≡ x
  of_record_same table zero x d h k = absurd (not-suc-le-zero h)
  of_record_same table (suc i) x d h k = get_or-set_same table i x d k

  pub of_record_other : (table : List A) (i j : ℕ) (x d : A) → (i ≡ j → ⊥) → of_record (with_record table i x) j d ≡ of_record table j d
  of_record_other table zero j x d h = refl
  of_record_other table (suc i) zero x d h = refl
  of_record_other table (suc i) (suc j) x d h = get_or-set_other table i j x d (λ e. h (ap suc (sym e)))

  -- where one record's thing is written, every record has what it had, or is the one written
  pub with_record_cases : (table : List A) (i : ℕ) (x : A) (j : ℕ) (d : A)
      → (of_record (with_record table i x) j d ≡ of_record table j d) ⊎ ((j ≡ i) × (of_record (with_record table i x) j d ≡ x))
  with_record_cases table zero x j d = inl refl
  with_record_cases table (suc i) x zero d = inl refl
  with_record_cases table (suc i) x (suc j) d = ⊎_elim inl (λ e. inr (ap suc e.0, e.1)) (set_cases table i x j d)

  pub length-with_record : (table : List A) (i : ℕ) (x : A) → length (with_record table i x) ≡ length table
  length-with_record table zero x = refl
  length-with_record table (suc i) x = length-set table i x

-- ---- whole tables

-- the first may be the longer
pub length_zipped : {A B C : Type 0} (f : A → B → C) (xs : List A) (ys : List B) → length ys ≤ length xs → length (zip_with f xs ys) ≡ length ys
unfolding zip_with
length_zipped f [] [] h = refl
length_zipped f [] (y ∷ ys) h = absurd (not-suc-le-zero h)
length_zipped f (x ∷ xs) [] h = refl
length_zipped f (x ∷ xs) (y ∷ ys) h = ap suc (length_zipped f xs ys (le_of_suc-le-suc h))

pub length-zip_with : {A B C : Type 0} (f : A → B → C) (xs : List A) (ys : List B) → length xs ≡ length ys → length (zip_with f xs ys) ≡ length xs
length-zip_with f xs ys h = length_zipped f xs ys (omega arith) ∙ sym h

pub map-set : {A B : Type 0} (f : A → B) (xs : List A) (i : ℕ) (x : A) → map f (set xs i x) ≡ set (map f xs) i (f x)
map-set f [] i x = refl
map-set f (y ∷ xs) zero x = refl
map-set f (y ∷ xs) (suc i) x = ap (λ t. f y ∷ t) (map-set f xs i x)

pub map-with_record : {A B : Type 0} (f : A → B) (xs : List A) (i : ℕ) (x : A) → map f (with_record xs i x) ≡ with_record (map f xs) i (f x)
map-with_record f xs zero x = refl
map-with_record f xs (suc i) x = map-set f xs i x

pub map_at : {A B : Type 0} (f : A → B) (xs : List A) (i : ℕ) (a : A) (b : B) → i < length xs → get_or (map f xs) i b ≡ f (get_or xs i a)
map_at f [] i a b h = absurd (not-suc-le-zero h)
map_at f (x ∷ xs) zero a b h = refl
map_at f (x ∷ xs) (suc i) a b h = map_at f xs i a b (le_of_suc-le-suc h)

pub zip_with_at : {A B C : Type 0} (f : A → B → C) (xs : List A) (ys : List B) (i : ℕ) (a : A) (b : B) (c : C) → i < length xs → i < length ys
    → get_or (zip_with f xs ys) i c ≡ f (get_or xs i a) (get_or ys i b)
unfolding zip_with
zip_with_at f [] ys i a b c h k = absurd (not-suc-le-zero h)
zip_with_at f (x ∷ xs) [] i a b c h k = absurd (not-suc-le-zero k)
zip_with_at f (x ∷ xs) (y ∷ ys) zero a b c h k = refl
zip_with_at f (x ∷ xs) (y ∷ ys) (suc i) a b c h k = zip_with_at f xs ys i a b c (le_of_suc-le-suc h) (le_of_suc-le-suc k)

-- the same past the end of both
pub get_d_zip_with : {A B C : Type 0} (f : A → B → C) (xs : List A) (ys : List B) (i : ℕ) (a : A) (b : B) → length xs ≡ length ys
    → get_or (zip_with f xs ys) i (f a b) ≡ f (get_or xs i a) (get_or ys i b)
unfolding zip_with
get_d_zip_with f [] [] i a b h = refl
get_d_zip_with f [] (y ∷ ys) i a b h = absurd (omega arith)
get_d_zip_with f (x ∷ xs) [] i a b h = absurd (omega arith)
get_d_zip_with f (x ∷ xs) (y ∷ ys) zero a b h = refl
get_d_zip_with f (x ∷ xs) (y ∷ ys) (suc i) a b h = get_d_zip_with f xs ys i a b (omega arith)

-- ---- what holds at every place of a table, past its end too

module _ {A : Type 0} (P : A → Type 0) (d : A) where
  pub set_keeps : (xs : List A) (i : ℕ) (x : A) → P x → ((j : ℕ) → P (get_or xs j d)) → (j : ℕ) → P (get_or (set xs i x) j d)
  set_keeps xs i x h all j = ⊎_elim (λ e. subst P (sym e) (all j)) (λ e. subst P (sym e.1) h) (set_cases xs i x j d)

  -- the same of the places that are there alone
  pub set_keeps_below : (xs : List A) (i : ℕ) (x : A) → (i < length xs → P x) → ((j : ℕ) → j < length xs → P (get_or xs j d))
      → (j : ℕ) → j < length xs → P (get_or (set xs i x) j d)
  set_keeps_below xs i x h all j k =
      ⊎_elim (λ e. subst P (sym e) (all j k)) (λ e. subst P (sym e.1) (h (subst (λ (m : ℕ). m < length xs) e.0 k))) (set_cases xs i x j d)

  -- what holds below a place holds one further, once what is written there has it
  pub set_next : (xs : List A) (i : ℕ) (x : A) → i < length xs → P x → ((j : ℕ) → j < i → P (get_or xs j d)) → (j : ℕ) → j < suc i → P (get_or (set xs i x) j d)
  set_next xs i x inside h all j k =
      ⊎_elim
      (λ e. subst P (sym (ap (λ (m : ℕ). get_or (set xs i x) m d) e ∙ get_or-set_same xs i x d inside)) h)
      (λ (lt : j < i). subst P (sym (get_or-set_other xs i j x d (λ e. omega arith))) (all j lt))
      (eq-or-lt_of_le (le_of_suc-le-suc k))

  pub map_keeps : (f : A → A) → ((x : A) → P x → P (f x)) → (xs : List A) → ((j : ℕ) → P (get_or xs j d)) → (j : ℕ) → P (get_or (map f xs) j d)
  map_keeps f h [] all j = all j
  map_keeps f h (x ∷ xs) all zero = h x (all zero)
  map_keeps f h (x ∷ xs) all (suc j) = map_keeps f h xs (λ k. all (suc k)) j

  -- the same by record numbers
  pub with_record_keeps : (table : List A) (i : ℕ) (x : A) → P x → ((j : ℕ) → P (of_record table j d)) → (j : ℕ) → P (of_record (with_record table i x) j d)
  with_record_keeps table i x h all j = ⊎_elim (λ e. subst P (sym e) (all j)) (λ e. subst P (sym e.1) h) (with_record_cases table i x j d)

  pub map-of_record_keeps : (f : A → A) → ((x : A) → P x → P (f x)) → (table : List A) → ((j : ℕ) → P (of_record table j d)) → (j : ℕ) → P (of_record (map f table) j d)
  map-of_record_keeps f h table all zero = all zero
  map-of_record_keeps f h table all (suc j) = map_keeps f h table (λ k. all (suc k)) j
