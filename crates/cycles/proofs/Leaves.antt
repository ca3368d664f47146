-- What an event leaves of what the report looks at.
--     IsWorkers, by_event       an event of a worker, and any event
--     Leaves, worker_leaves     a worker's event leaves the counts, the history and the collector's record
--     opening_counts            so does an opening with the counts
--     history_grows             in phase 2 the history only grows
--     taken_is_the_log, worker_takes-none     by the log of the worker whose turn it is, and by no worker's event
-- Assumes nothing.
use Prim.Native.Nat.{ℕ, ◌+◌, ◌-◌, ◌≤◌}
use mathlib.Core.Path.{◌≡◌, refl, ap, ◌∙◌}
use mathlib.Core.Bool.{Bool, true, false, cond}
use mathlib.Core.List.{◌++◌}
use native.Mathlib.Omega.{arith}
use borrow.Author.Tests.{eqb-true, eq-eqb}
use lib.Dec.{eqb}
use lib.ListN.{length, length-append, get_or}
use Rattle.rules.specs.declared.Sizes.{Sizes}
use Rattle.rules.specs.declared.LinkNumber.{LinkNumber}
use Rattle.rules.specs.declared.Event.{Event}
use Rattle.rules.specs.declared.Event.TheVariants.{Make, Move, Drop, Load, Store, Look, Post, Collect}
use Rattle.rules.specs.Pool.{Pool, register_at, log_at}
use Rattle.rules.specs.Reply.{Outcome}
use Rattle.rules.specs.Worker.{makes, moves, drops, register_takes, loads, looks, added, link_takes, stores, posts}
use Rattle.rules.specs.Size.{link_number, board_number}
use Rattle.rules.specs.Collect.{stepped, opens, made_by, onward, takes, phases, collects}
use Rattle.rules.specs.Outcome.{refusals, decide, does, outcome}
use Rattle.laws.proofs.Tests.{and_left}
use Rattle.laws.proofs.Change.{stored_has}
use Rattle.laws.proofs.Refusals.{decided}
use Rattle.cycles.specs.Cycles.{is_opening, taken_by, sum, count_sum}
use Rattle.cycles.proofs.KeptUp.{at_rest}

pub record Leaves (p q : Pool) : Type 0 where
  pub counts : q.records.count ≡ p.records.count
  pub history : q.history ≡ p.history
  pub collector : q.collector ≡ p.collector

leaves_itself : (p : Pool) → Leaves p p
leaves_itself p = record { counts = refl; history = refl; collector = refl }

-- an event of a worker
abbrev pub IsWorkers : Event → Type 0
IsWorkers (Make w r) = Unit
IsWorkers (Move w r q) = Unit
IsWorkers (Drop w r) = Unit
IsWorkers (Load w r q f) = Unit
IsWorkers (Store w q f r) = Unit
IsWorkers (Look w r e) = Unit
IsWorkers (Post w e r) = Unit
IsWorkers Collect = ⊥

-- what holds of every worker's event and of the collector's holds of any
pub by_event : (P : Event → Type 0) → ((e : Event) → IsWorkers e → P e) → P Collect → (e : Event) → P e
by_event P worker collect (Make w r) = worker (Make w r) tt
by_event P worker collect (Move w r q) = worker (Move w r q) tt
by_event P worker collect (Drop w r) = worker (Drop w r) tt
by_event P worker collect (Load w r q f) = worker (Load w r q f) tt
by_event P worker collect (Store w q f r) = worker (Store w q f r) tt
by_event P worker collect (Look w r e) = worker (Look w r e) tt
by_event P worker collect (Post w e r) = worker (Post w e r) tt
by_event P worker collect Collect = collect

module _ (s : Sizes) (p : Pool) where
  -- a link takes a value
  link_leaves : (w : ℕ) (l : LinkNumber) (r : ℕ) → Leaves p (link_takes w l r p).pool
  unfolding added
  link_leaves w l r =
      stored_has p w l r (Leaves p)
      (λ on t h. record { counts = h.counts; history = h.history; collector = h.collector })
      (λ off. record { counts = refl; history = refl; collector = refl })
      (λ on. record { counts = refl; history = refl; collector = refl })

  -- a worker's event is refused or done
  leaves_done : (e : Event) → Leaves p (does s p e).pool → Leaves p (outcome s p e).pool
  unfolding outcome
  leaves_done e done = decided (Leaves p) p (leaves_itself p) (refusals s p e) (does s p e) (λ unrefused. done)

  pub worker_leaves : (e : Event) → IsWorkers e → Leaves p (outcome s p e).pool
  unfolding does makes moves drops register_takes loads looks stores posts
  worker_leaves (Make w r) h = leaves_done (Make w r) (record { counts = refl; history = refl; collector = refl })
  worker_leaves (Move w r q) h = leaves_done (Move w r q) (record { counts = refl; history = refl; collector = refl })
  worker_leaves (Drop w r) h = leaves_done (Drop w r) (record { counts = refl; history = refl; collector = refl })
  worker_leaves (Load w r q f) h = leaves_done (Load w r q f) (record { counts = refl; history = refl; collector = refl })
  worker_leaves (Store w q f r) h = leaves_done (Store w q f r) (link_leaves w (link_number s (register_at p w q) f) r)
  worker_leaves (Look w r e) h = leaves_done (Look w r e) (record { counts = refl; history = refl; collector = refl })
  worker_leaves (Post w e r) h = leaves_done (Post w e r) (link_leaves w (board_number s e) r)
  worker_leaves Collect h = absurd h

  -- the step of a phase
  step_in : (k : ℕ) → p.collector.phase ≡ k → outcome s p Collect ≡ get_or phases k (λ s p. stepped p) s p
  unfolding outcome decide refusals does collects
  step_in k e = ap (λ (n : ℕ). get_or phases n (λ s p. stepped p) s p) e

  pub opening_counts : (e : Event) → is_opening p (outcome s p e).pool ≡ true → count_sum (outcome s p e).pool ≡ count_sum p
  unfolding opens phases
  opening_counts =
      by_event (λ e. is_opening p (outcome s p e).pool ≡ true → count_sum (outcome s p e).pool ≡ count_sum p)
      (λ e worker opening. ap sum (worker_leaves e worker).counts)
      (λ opening. ap (λ (o : Outcome). count_sum o.pool) (step_in 0 (eqb-true p.collector.phase 0 (and_left (at_rest p) _ opening))))

  -- ---- phase 2

  -- "that worker's log is added at the end of the history"
  took : p.collector.phase ≡ 2 → (outcome s p Collect).pool.history ≡ p.history ++ log_at p p.collector.position
  unfolding phases takes onward made_by
  took two = ap (λ (o : Outcome). o.pool.history) (step_in 2 two)

  pub history_grows : (e : Event) → p.collector.phase ≡ 2 → length p.history ≤ length (outcome s p e).pool.history
  history_grows =
      by_event (λ e. p.collector.phase ≡ 2 → length p.history ≤ length (outcome s p e).pool.history)
      (λ e worker two. omega (arith, ap length (worker_leaves e worker).history))
      (λ two. omega (arith, ap length (took two), length-append p.history (log_at p p.collector.position)))

  pub taken_is_the_log : p.collector.phase ≡ 2 → taken_by s p Collect ≡ length (log_at p p.collector.position)
  unfolding taken_by
  taken_is_the_log two =
      let log = log_at p p.collector.position in
      let grown : length (outcome s p Collect).pool.history ≡ length p.history + length log = ap length (took two) ∙ length-append p.history log in
      ap (λ (b : Bool). cond b (length (outcome s p Collect).pool.history - length p.history) 0) (eq-eqb p.collector.phase 2 two) ∙ (omega arith)

  -- a worker moves none there, and no other phase does
  pub worker_takes-none : (e : Event) → IsWorkers e → taken_by s p e ≡ 0
  unfolding taken_by
  worker_takes-none e worker =
      by_phase (eqb p.collector.phase 2)
    where
      by_phase : (b : Bool) → cond b (length (outcome s p e).pool.history - length p.history) 0 ≡ 0
      by_phase true = omega (arith, ap length (worker_leaves e worker).history)
      by_phase false = refl
