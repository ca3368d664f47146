-- The call by its tests of the pool.
--     refused_many     they refuse: nothing is done
--     done_many        they refuse nothing: the events are done
-- Assumes nothing.
use Prim.Native.Nat.{ℕ}
use mathlib.Core.Path.{◌≡◌, ap, ◌∙◌}
use mathlib.Core.List.{List}
use Rattle.std.specs.Prelude.{Ok, Err}
use Rattle.rules.specs.declared.Sizes.{Sizes}
use Rattle.rules.specs.declared.Refusal.{Refusal}
use Rattle.rules.specs.declared.Collector.{Collector}
use Rattle.tables.specs.Tables.{Tables}
use Rattle.pool.specs.Calls.{checked}
use Rattle.pool.proofs.Checked.{asks, by_check}
use Rattle.trace.specs.Stretch.{ran_on}
use Rattle.many.specs.Many.{ManyOn, refused_many as refused, done, many_on}

module _ (s : Sizes) (t : Tables) (c : Collector) (bytes : List ℕ) (step : ℕ) (room : List ℕ) where
  abbrev does : ManyOn
  does = done bytes (ran_on s t c bytes 0 step room)

  abbrev refuses : Refusal → ManyOn
  refuses why = refused why t c step room

  pub refused_many : {why : Refusal} → checked s t c ≡ Err why → many_on s t c bytes step room ≡ refuses why
  unfolding many_on
  refused_many why = by_check s t c does refuses ∙ ap (asks s t c does refuses) why

  pub done_many : checked s t c ≡ Ok tt → many_on s t c bytes step room ≡ does
  unfolding many_on
  done_many passed = by_check s t c does refuses ∙ ap (asks s t c does refuses) passed
