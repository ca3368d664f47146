-- The invariant of a run from fresh by which what a worker can reach is never freed.
--     taken_below, scanned_below    the workers whose log was taken, whose registers were scanned in this cycle
--     snoops_in                     the snoop flags that a phase has
--     Used, Held                    a record number is none or of a used record, none or of a held one
--     Kept                          the records that cannot be freed in this cycle
--     Since                         what is known of a record made since its maker's log was taken
--     Named, Phased                 the invariant: in every phase, and in a phase at a position
-- It belongs to the proof and stands in no statement. Assumes nothing.
use Prim.Native.Nat.{ℕ, suc, ◌≤◌, ◌<◌}
use mathlib.Core.Path.{◌≡◌}
use mathlib.Core.Bool.{Bool, true, false}
use mathlib.Core.List.{[], ◌∷◌}
use lib.Dec.{ltb, leb}
use lib.ListN.{get_or}
use Rattle.rules.specs.declared.Sizes.{Sizes}
use Rattle.rules.specs.declared.RecordNumber.{RecordNumber}
use Rattle.rules.specs.declared.LinkNumber.{LinkNumber}
use Rattle.rules.specs.Size.{links, link_number, board_number}
use Rattle.rules.specs.Pool.{Pool, none, used_at, held_at, candidate_at, maker_at, value_at, changed_at, register_at, snoops_at, log_at}
use Rattle.rules.specs.View.{all_logs, view_value}
use Rattle.rules.specs.Sound.{Each}

-- ---- taken, scanned, snooping

-- the workers below this number had their log taken in this cycle: those below the position in phase 2, all from phase 3 on
abbrev pub taken_below : Sizes → ℕ → ℕ → ℕ
taken_below s phase i = get_or (0 ∷ 0 ∷ i ∷ []) phase s.w

-- the workers below this number had their registers scanned in this cycle: those below the position in phase 4, all from phase 5 on
abbrev pub scanned_below : Sizes → ℕ → ℕ → ℕ
scanned_below s phase i = get_or (0 ∷ 0 ∷ 0 ∷ 0 ∷ i ∷ []) phase s.w

-- on for the workers below the position in phase 1, for all in 2 and 3, for those from the position on in 4, else off
abbrev pub snoops_in : ℕ → ℕ → ℕ → Bool
snoops_in phase i w = get_or (false ∷ ltb w i ∷ true ∷ true ∷ leb i w ∷ []) phase false

-- ---- used, held, kept

abbrev pub Used : Pool → RecordNumber → Type 0
Used p a = 1 ≤ a.0 → used_at p a ≡ true

abbrev pub Held : Pool → RecordNumber → Type 0
Held p a = 1 ≤ a.0 → held_at p a ≡ true

-- held, or with a maker, or the view value of a board entry; and all that view values lead to from these. A changed link does not keep its record: one that waits
-- (document 02, request 8) is not kept
pub data Kept (s : Sizes) (p : Pool) : RecordNumber → Type 0 where
  by_held : {a : RecordNumber} → held_at p a ≡ true → Kept s p a
  by_maker : {a : RecordNumber} → 1 ≤ maker_at p a → Kept s p a
  by_board : {b : RecordNumber} (e : ℕ) → e < s.b → view_value p (board_number s e) ≡ b → 1 ≤ b.0 → Kept s p b
  by_view : {a b : RecordNumber} (f : ℕ) → Kept s p a → f < s.k → view_value p (link_number s a f) ≡ b → 1 ≤ b.0 → Kept s p b

abbrev pub NoneOrKept : Sizes → Pool → RecordNumber → Type 0
NoneOrKept s p a = 1 ≤ a.0 → Kept s p a

-- ---- made since

-- what is known in a phase of a record whose maker is a worker whose log was taken
pub record Since (s : Sizes) (p : Pool) (phase : ℕ) (a : RecordNumber) : Type 0 where
  -- it is a candidate only if it is held
  pub candidate : candidate_at p a ≡ true → held_at p a ≡ true
  -- it is no old value of the history
  pub history : Each (λ e. e.old.0 ≡ a.0 → ⊥) p.history
  -- in phases 2 and 3 a link holds it only if it is held
  pub value : phase ≤ 3 → (l : LinkNumber) → (value_at p l).0 ≡ a.0 → held_at p a ≡ true
  -- a link's view value is it only if it is held
  pub view : (l : LinkNumber) → l.0 < links s → (view_value p l).0 ≡ a.0 → held_at p a ≡ true
  -- in phase 2 a link that holds it is marked, and it is no old value of a log
  pub marked : phase ≡ 2 → (l : LinkNumber) → (value_at p l).0 ≡ a.0 → changed_at p l ≡ true
  pub log : phase ≡ 2 → Each (λ e. e.old.0 ≡ a.0 → ⊥) (all_logs p)

-- ---- the invariant

-- in every phase: registers, links and entries name used records; a free record is no candidate, has no maker, and its links hold none
pub record Named (s : Sizes) (p : Pool) : Type 0 where
  pub registers : (w r : ℕ) → Used p (register_at p w r)
  pub values : (l : LinkNumber) → Used p (value_at p l)
  pub logs : Each (λ e. Used p e.old) (all_logs p)
  pub history : Each (λ e. Used p e.old) p.history
  pub free_candidate : (a : RecordNumber) → used_at p a ≡ false → candidate_at p a ≡ false
  pub free_maker : (a : RecordNumber) → used_at p a ≡ false → maker_at p a ≡ 0
  pub free_links : (a : RecordNumber) → 1 ≤ a.0 → a.0 ≤ s.n → used_at p a ≡ false → (f : ℕ) → f < s.k → value_at p (link_number s a f) ≡ none

-- in a phase, at a position
pub record Phased (s : Sizes) (p : Pool) (phase i : ℕ) : Type 0 where
  -- snoop flags follow the phase
  pub snoop : (w : ℕ) → w < s.w → snoops_at p w ≡ snoops_in phase i w
  -- in phases 2 and 3 a link in the log of a taken worker holds none or a held record
  pub logged : 2 ≤ phase → phase ≤ 3 → (w : ℕ) → w < taken_below s phase i → Each (λ e. Held p (value_at p e.link)) (log_at p w)
  -- what is made since
  pub since : (a : RecordNumber) (w : ℕ) → maker_at p a ≡ suc w → w < taken_below s phase i → Since s p phase a
  -- from phase 4 on every register of a scanned worker holds none or a kept record, and so does every marked link
  pub scanned : 4 ≤ phase → (w r : ℕ) → w < scanned_below s phase i → NoneOrKept s p (register_at p w r)
  pub marked : 4 ≤ phase → (l : LinkNumber) → l.0 < links s → changed_at p l ≡ true → NoneOrKept s p (value_at p l)
