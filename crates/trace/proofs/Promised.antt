-- What is promised of a whole trace: any bytes, and whichever sizes the caller takes. Nothing is assumed of the events. The words are those of specs/Promise.antt,
-- of `rules` and of `promises`.
--     every_trace               a replay is a run of the rules, from the fresh pool, or nothing was touched
--     whole_is_a_run            a whole trace is a run
--     call_is_a_run, call_touches_nothing     the same of the call on lent tables
--     the_line                  an event's line is that of its answer in the pool that the events before it left
--     reached_is_never_freed    what a worker can reach is never freed
--     counts_at_a_close         at each close the counts are those of the values the collector last saw
--     lost_is_freed             what was lost when a cycle opened, loops aside, is freed in that cycle
-- Assumes nothing.
use Prim.Native.Nat.{ℕ, suc, ◌+◌, ◌≤◌}
use mathlib.Core.Path.{◌≡◌, refl, sym, ap, ◌∙◌}
use mathlib.Core.Bool.{Bool, true, false, cond}
use mathlib.Core.List.{List, ◌∷◌, ◌++◌, append-nil}
use native.Mathlib.Omega.{arith}
use native.Mathlib.Nat.{zero-add}
use lib.ListN.{length, drop}
use Rattle.std.specs.Prelude.{Result, Ok, Err}
use Rattle.rules.specs.declared.Sizes.{Sizes}
use Rattle.rules.specs.declared.RecordNumber.{RecordNumber}
use Rattle.rules.specs.declared.Event.{Event}
use Rattle.rules.specs.declared.Refusal.{Refusal}
use Rattle.rules.specs.declared.Refusal.TheVariants.{WrongSize}
use Rattle.rules.specs.declared.Collector.{Collector}
use Rattle.rules.specs.Size.{in_range, links}
use Rattle.rules.specs.Pool.{Pool, none, count_at, fresh}
use Rattle.rules.specs.Outcome.{outcome, answers, after, free_records}
use Rattle.rules.specs.Sound.{tally}
use Rattle.promises.specs.Reach.{Reaches}
use Rattle.promises.specs.Cycle.{Closes, Cycle}
use Rattle.promises.specs.Lost.{Lost, LoopKeeps}
use Rattle.promises.specs.Seen.{seen_after, last_seen}
use Rattle.promises.proofs.Promises as rules-promise
use Rattle.tables.specs.Tables.{Tables}
use Rattle.tables.specs.Lie.{tables_of}
use Rattle.fresh.specs.Fits.{is_exact}
use Rattle.tables.specs.Event.{LentPool}
use Rattle.fields.specs.declared.Stage.TheVariants.{First}
use Rattle.fields.specs.declared.Read.{Read}
use Rattle.fields.specs.declared.RefusedAt.{RefusedAt}
use Rattle.fields.specs.Field.{refused_at, read_at}
use Rattle.trace.specs.Replay.{Line, Ending, ended_whole, untouched, stands, Replayed, line_of, with_lines, stops, at_start, replayed}
use Rattle.trace.specs.Stretch.{Stretch, behind, stretch, lines_behind, put}
use Rattle.trace.specs.Stand.{stand_behind, ending_of}
use Rattle.trace.specs.Traced.{left_on, traced_by, traced}
use Rattle.trace.specs.Promise.{events_of, Run, Shown, a_run, nothing_touched, line_at, line_frees, lines_free}
use Rattle.fields.proofs.Comes.{sizes_read, Comes, a_refusal, the_sizes, read_comes}
use Rattle.trace.proofs.Turns.{turn}
use Rattle.trace.proofs.Along.{goes_on, stretch-ends, goes-stretch}
use Rattle.trace.proofs.Behind.{goes_last}
use Rattle.trace.proofs.Sized.{length_lines}
use Rattle.trace.proofs.FirstField.{replay_starts}
use Rattle.trace.proofs.Lines.{line_of_event, lines_behind_lem, line_frees_lem, lines_free_lem, whole_numbers}

-- ---- a replay is a run

module _ (takes : Sizes → Bool) (bytes : List ℕ) where
  -- behind the sizes, from a place on
  module _ (s : Sizes) (place : ℕ) where
    abbrev x : Stretch
    x = stretch bytes place 0

    abbrev q : Pool
    q = after s (fresh s) x.events

    abbrev ending : Ending
    ending = ending_of (stand_behind true (free_records q) q.collector.closed bytes x.next (behind x.step)).stand x.next

    goes_so : goes_on takes bytes place (behind 0) (stands s (fresh s))
        ≡ record { lines = lines_behind 0 (answers s (fresh s) x.events); ending = ending; left = stands s q }
    goes_so =
        let lines = lines_behind 0 (answers s (fresh s) x.events) in
        goes-stretch takes bytes s (fresh s) place 0
        ∙ ap (with_lines lines) (goes_last takes bytes s q x.next x.step (stretch-ends bytes place 0))
        ∙ (λ j. record { lines = append-nil lines j; ending = ending; left = stands s q })

  sized-runs : (s : Sizes) (next : ℕ) → read_at bytes 0 at_start ≡ Ok (sizes_read s next) → in_range s ≡ true → takes s ≡ true → Run takes bytes s
  unfolding events_of
  sized-runs s next read range taken =
      record {
        first = (sizes_read s next, read, refl);
        range = range;
        taken = taken;
        lines = ap (λ (r : Replayed). r.lines) all ∙ ap (λ r. lines_behind 0 (answers s (fresh s) (first_events r))) (sym read);
        left = ap (λ (r : Replayed). r.left) all ∙ ap (λ r. stands s (after s (fresh s) (first_events r))) (sym read);
        free = λ free closed h. (numbers free closed h).0 ∙ ap (λ r. free_records (after s (fresh s) (first_events r))) (sym read);
        closed = λ free closed h. (numbers free closed h).1 ∙ ap (λ r. (after s (fresh s) (first_events r)).collector.closed) (sym read);
      }
    where
      -- the events behind what was read
      first_events : Result Read RefusedAt → List Event
      first_events r = (stretch bytes (elim r [ Ok x ↦ x.next | Err e ↦ e.place ]) 0).events

      all : replayed takes bytes
          ≡ record { lines = lines_behind 0 (answers s (fresh s) (x s next).events); ending = ending s next; left = stands s (q s next) }
      all =
          replay_starts takes bytes
          ∙ ap (turn takes (goes_on takes bytes) 0 untouched) read
          ∙ ap (λ (b : Bool). cond b (goes_on takes bytes next (behind 0) (stands s (fresh s))) (stops WrongSize 0 untouched)) taken
          ∙ goes_so s next

      numbers : (free closed : ℕ) → (replayed takes bytes).ending ≡ ended_whole free closed → (free ≡ free_records (q s next)) × (closed ≡ (q s next).collector.closed)
      numbers free closed h =
          whole_numbers (free_records (q s next)) (q s next).collector.closed free closed (x s next).next 2 bytes (x s next).next (behind (x s next).step)
          (ap (λ (r : Replayed). r.ending) (sym all) ∙ h)

  pub every_trace : Shown takes bytes
  every_trace = by_read (read_at bytes 0 at_start) refl (read_comes bytes 0 0 First)
    where
      by_takes : (s : Sizes) (next : ℕ) → read_at bytes 0 at_start ≡ Ok (sizes_read s next) → in_range s ≡ true → (b : Bool) → takes s ≡ b → Shown takes bytes
      by_takes s next read range true taken = a_run s (sized-runs s next read range taken)
      by_takes s next read range false refused =
          nothing_touched WrongSize
          (replay_starts takes bytes
          ∙ ap (turn takes (goes_on takes bytes) 0 untouched) read
          ∙ ap (λ (b : Bool). cond b (goes_on takes bytes next (behind 0) (stands s (fresh s))) (stops WrongSize 0 untouched)) refused)

      by_read : (r : Result Read RefusedAt) → read_at bytes 0 at_start ≡ r → Comes bytes 0 0 First r → Shown takes bytes
      by_read r read (a_refusal why) = nothing_touched why (replay_starts takes bytes ∙ ap (turn takes (goes_on takes bytes) 0 untouched) read)
      by_read r read (the_sizes s next range lies) = by_takes s next read range (takes s) refl

  pub whole_is_a_run : (free closed : ℕ) → (replayed takes bytes).ending ≡ ended_whole free closed → (s : Sizes) × Run takes bytes s
  whole_is_a_run free closed whole = by_shown every_trace
    where
      by_shown : Shown takes bytes → (s : Sizes) × Run takes bytes s
      by_shown (a_run s run) = (s, run)
      by_shown (nothing_touched why stopped) =
          let other : refused_at why 0 ≡ ended_whole free closed = ap (λ (r : Replayed). r.ending) (sym stopped) ∙ whole in
          absurd (let z : ◌≡◌ {A = ℕ} 0 1 = cc in omega arith)

-- ---- the call on lent tables, which takes the sizes that they have the lengths of

module _ (t : Tables) (c : Collector) (bytes room : List ℕ) where
  abbrev fitting : Sizes → Bool
  fitting s = is_exact s t

  -- the tables are those of the run's pool, and the slice has its lines as far as there is room
  pub call_is_a_run : {s : Sizes} → Run fitting bytes s
      → let p : Pool = after s (fresh s) (events_of bytes) in
      traced t c bytes room
      ≡ record {
        replay = record { ending = (replayed fitting bytes).ending; events = length (events_of bytes); collector = p.collector };
        tables = tables_of s p;
        answers = put room (lines_behind 0 (answers s (fresh s) (events_of bytes)));
      }
  unfolding traced traced_by
  call_is_a_run {s} run =
      let lent : LentPool = record { tables = t; collector = c } in
      λ j.
      record {
        replay =
            record {
              ending = (replayed fitting bytes).ending;
              events = (ap length run.lines ∙ length_lines s (fresh s) 0 (events_of bytes)) j;
              collector = (left_on lent (run.left j)).collector;
            };
        tables = (left_on lent (run.left j)).tables;
        answers = put room (run.lines j);
      }

  -- or the call changes nothing
  pub call_touches_nothing : (why : Refusal) → replayed fitting bytes ≡ stops why 0 untouched
      → traced t c bytes room ≡ record { replay = record { ending = refused_at why 0; events = 0; collector = c }; tables = t; answers = room }
  unfolding traced traced_by put
  call_touches_nothing why stopped = ap (traced_by t c room) stopped

-- ---- the statements, of a run and any event of it

module _ {takes : Sizes → Bool} {bytes : List ℕ} {s : Sizes} (run : Run takes bytes s) (before : List Event) where
  -- the pool that the events before it left
  abbrev pub here : Pool
  here = after s (fresh s) before

  abbrev pub lines : List Line
  lines = (replayed takes bytes).lines

  module _ (e : Event) (later : List Event) (stand : events_of bytes ≡ before ++ e ∷ later) where
    pub the_line : line_at lines (length before) ≡ line_of (suc (length before)) (outcome s here e).answer
    the_line =
        ap (λ (xs : List Line). line_at xs (length before)) (run.lines ∙ ap (λ (events : List Event). lines_behind 0 (answers s (fresh s) events)) stand)
        ∙ line_of_event s (fresh s) 0 before e later
        ∙ ap (λ (n : ℕ). line_of (suc n) (outcome s here e).answer) (zero-add (length before))

    pub reached_is_never_freed : (a : RecordNumber) → line_frees a e (line_at lines (length before)) ≡ true → (w : ℕ) → Reaches s here w a → ⊥
    reached_is_never_freed a freed =
        rules-promise.reached_is_never_freed s run.range before e a
        (line_frees_lem a e (suc (length before)) (outcome s here e).answer ∙ ap (line_frees a e) (sym the_line) ∙ freed)

    pub counts_at_a_close : Closes s here e → (a : RecordNumber) → 1 ≤ a.0 → a.0 ≤ s.n
        → count_at (outcome s here e).pool a ≡ tally (seen_after s here e (last_seen s (fresh s) (λ l. none) before)) (links s) a
    counts_at_a_close = rules-promise.counts_at_a_close s run.range before e

  module _ (e : Event) (during later : List Event) (stand : events_of bytes ≡ before ++ (e ∷ during ++ later)) where
    pub lost_is_freed : Cycle s here e during → (a : RecordNumber) → Lost s here a → (LoopKeeps s here a → ⊥)
        → lines_free a (e ∷ during) (drop (length before) lines) ≡ true
    lost_is_freed cycle a lost unlooped =
        ap (λ (xs : List Line). lines_free a (e ∷ during) (drop (length before) xs))
        (run.lines ∙ ap (λ (events : List Event). lines_behind 0 (answers s (fresh s) events)) stand)
        ∙ ap (lines_free a (e ∷ during)) (lines_behind_lem s (fresh s) 0 before (e ∷ during ++ later))
        ∙ sym (lines_free_lem s here a (0 + length before) (e ∷ during) later)
        ∙ rules-promise.lost_is_freed s run.range before e during cycle a lost unlooped
