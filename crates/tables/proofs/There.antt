-- A record number as an option.
--     there_some                    of a number that is a record's
--     some-there, none-there        what the option says of the number
-- Assumes nothing.
use Prim.Native.Nat.{◌≤◌}
use mathlib.Core.Path.{◌≡◌, refl, sym, ap}
use mathlib.Core.Bool.{Bool, true, false, cond}
use native.Mathlib.Omega.{arith}
use borrow.Author.Tests.{ne_eqb}
use lib.Dec.{eqb}
use Rattle.std.proofs.Common.{Some, None}
use Rattle.std.proofs.lemmas.Bool.{eqb-false, eqb-true}
use Rattle.rules.specs.declared.RecordNumber.{RecordNumber}
use Rattle.tables.specs.There.{record_there}

pub there_some : (a : RecordNumber) → 1 ≤ a.0 → Some a ≡ record_there a
there_some a some = ap (λ (b : Bool). cond b None (Some a)) (sym (ne_eqb a.0 0 (λ e. omega arith)))

pub some-there : (a r : RecordNumber) → Some a ≡ record_there r → (a ≡ r) × (1 ≤ a.0)
some-there a r e = by_test (eqb r.0 0) refl e
  where
    by_test : (b : Bool) → eqb r.0 0 ≡ b → Some a ≡ cond b None (Some r) → (a ≡ r) × (1 ≤ a.0)
    by_test true is same = absurd (cc)
    by_test false is same =
        let equal : a ≡ r = cc in
        (equal, omega (arith, eqb-false r.0 0 is, ap (λ (x : RecordNumber). x.0) equal))

pub none-there : (r : RecordNumber) → None ≡ record_there r → r.0 ≡ 0
none-there r e = by_test (eqb r.0 0) refl e
  where
    by_test : (b : Bool) → eqb r.0 0 ≡ b → None ≡ cond b None (Some r) → r.0 ≡ 0
    by_test true is same = eqb-true r.0 0 is
    by_test false is same = absurd (cc)
