-- Many events at once are the calls for each of them, one after another.
--     many_is_calls     on a sound pool: the answers, the tables and the collector's record
--     one_result        two results that both satisfy the contract are equal
-- Assumes nothing.
use Prim.Native.Nat.{ℕ}
use mathlib.Core.Path.{◌≡◌, sym, ap, ◌∙◌}
use mathlib.Core.Bool.{true}
use mathlib.Core.List.{List}
use Rattle.rules.specs.declared.Sizes.{Sizes}
use Rattle.rules.specs.declared.Event.{Event}
use Rattle.rules.specs.declared.Answer.{Answer}
use Rattle.rules.specs.declared.Collector.{Collector}
use Rattle.rules.specs.Pool.{Pool}
use Rattle.tables.specs.Tables.{Tables}
use Rattle.tables.specs.Lie.{pool_of}
use Rattle.tables.specs.Known.{Known}
use Rattle.tables.proofs.RoundTrip.{known_back}
use Rattle.clauses.specs.IsSound.{is_sound}
use Rattle.fresh.specs.Fits.{fits}
use Rattle.tables.specs.Event.{LentPool}
use Rattle.pool.specs.Run.{call_answers, after_calls}
use Rattle.pool.proofs.Checked.{tests_known, checked_sound}
use Rattle.pool.proofs.Called.{laid_out, run_lies, run_answers}
use Rattle.trace.specs.Stretch.{stretch, lines_behind, put, RanOn, ran_on}
use Rattle.many.specs.declared.Many.{Many}
use Rattle.many.specs.Many.{ManyOn, done, many_on}
use Rattle.many.proofs.Checked.{done_many}

module _ (s : Sizes) (t : Tables) (c : Collector) (fit : fits s t ≡ true) (sound : is_sound s t c ≡ true) (bytes : List ℕ) (step : ℕ) (room : List ℕ) where
  known : Known s t c
  known = tests_known s t c fit sound

  -- what lies in the tables, and what the calls leave
  abbrev lent_pool : LentPool
  lent_pool = record { tables = t; collector = c }

  abbrev events : List Event
  events = (stretch bytes 0 step).events

  pool : Pool
  pool = pool_of s t c

  lies : lent_pool ≡ laid_out s pool
  unfolding pool pool_of
  lies = λ j. record { tables = sym (known_back known) j; collector = c }

  -- the whole call, on the pool that lies there
  abbrev done_on : RanOn → ManyOn
  done_on = done bytes

  is_done : many_on s t c bytes step room ≡ done_on (ran_on s t c bytes 0 step room)
  is_done = done_many s t c bytes step room (checked_sound s t c fit sound)

  pub many_is_calls : ((many_on s t c bytes step room).answers ≡ put room (lines_behind step (call_answers s lent_pool events)))
      × (record { tables = (many_on s t c bytes step room).tables; collector = (many_on s t c bytes step room).ran.collector } ≡ after_calls s lent_pool events)
  unfolding ran_on pool
  many_is_calls = (
    ap (λ (x : ManyOn). x.answers) is_done
        ∙ ap (λ (xs : List Answer). put room (lines_behind step xs)) (sym (ap (λ (x : LentPool). call_answers s x events) lies ∙ run_answers s known.sizes pool known.tables.sound events)),
    ap (λ (x : ManyOn). record { tables = x.tables; collector = x.ran.collector }) is_done
        ∙ sym (ap (λ (x : LentPool). after_calls s x events) lies ∙ run_lies s known.sizes pool known.tables.sound events),
  )

-- what the call answers, with the tables and the slice that it leaves
abbrev leaving : Many → Tables → List ℕ → ManyOn
leaving x t answers = record { rest = x.rest; ran = x.ran; tables = t; answers = answers }

pub one_result : (s : Sizes) (before : Tables) (c : Collector) (bytes : List ℕ) (step : ℕ) (room : List ℕ) (x y : Many) (t u : Tables) (a b : List ℕ)
    → many_on s before c bytes step room ≡ leaving x t a → many_on s before c bytes step room ≡ leaving y u b → (x ≡ y) × (t ≡ u) × (a ≡ b)
one_result s before c bytes step room x y t u a b first second =
    let same : leaving x t a ≡ leaving y u b = sym first ∙ second in
    (ap (λ (r : ManyOn). record { rest = r.rest; ran = r.ran }) same, ap (λ (r : ManyOn). r.tables) same, ap (λ (r : ManyOn). r.answers) same)
