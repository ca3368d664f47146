-- What was lost when a cycle opened and is not freed since, through the cycle. The records that remain are a parameter, R: a step that frees one takes it out.
--     Foreign           an entry that says nothing of a record
--     Left              what is known of a record that remains
--     Holder            a link that belongs to a record that remains
--     Remains           what is known of all of them: only links of records that remain hold one
--     left_by           what is known after a change that brings nothing into reach
--     worker-remains    the worker events keep it
--     collect-remains   the collector steps keep it
-- Assumes nothing.
use Prim.Native.Nat.{ℕ, suc, ◌+◌, ◌≤◌, ◌<◌, zero-le}
use mathlib.Core.Path.{◌≡◌, refl, sym, ap, ◌∙◌, subst}
use mathlib.Core.Logic.{◌⊎◌, inl, ⊎_elim}
use mathlib.Core.Bool.{true, false, true≢false}
use mathlib.Core.List.{[], ◌∷◌, ◌++◌}
use native.Mathlib.Omega.{arith}
use lib.ListN.{length, get_or}
use Rattle.rules.specs.declared.Sizes.{Sizes}
use Rattle.rules.specs.declared.RecordNumber.{RecordNumber}
use Rattle.rules.specs.declared.LinkNumber.{LinkNumber}
use Rattle.rules.specs.Size.{links, link_number}
use Rattle.rules.specs.Pool.{Entry, Pool, none, of_record, used_at, held_at, maker_at, value_at, registers_at, register_at, log_at, with_held, with_changed, with_register, with_snoop, with_log, with_history}
use Rattle.rules.specs.Worker.{chosen, makes, added, link_takes}
use Rattle.rules.specs.Collect.{opens, snoops, made_by, takes, entry_here, clears, held_by, scans, falls, rises, counted, counts}
use Rattle.rules.specs.Sound.{Each, Sound}
use Rattle.laws.proofs.Tests.{eqb_cases}
use Rattle.laws.proofs.Number.{record_same}
use Rattle.laws.proofs.Lists.{set_next, set_cases, with_record_cases, Each-append}
use Rattle.laws.proofs.Chosen.{chosen_free}
use Rattle.laws.proofs.Change.{stored_has}
use Rattle.laws.proofs.Marks.{on_some, on_low, made_own, made_other, held_by_other}
use Rattle.laws.proofs.Phases.{moved, snoops_cases, takes_cases, clears_cases, scans_cases, counts_cases}
use Rattle.soundness.proofs.Core.{position_in}
use Rattle.promises.specs.Reach.{Reaches, holds}
use Rattle.promises.proofs.Invariant.{Named, taken_below}
use Rattle.promises.proofs.Earlier.{AtHand, Shrunk, reach_shrinks, back_register, back_made, stored_values, back_stored}

-- ---- what is known

-- an entry for no link of x, whose old value is not x
pub record Foreign (s : Sizes) (x : RecordNumber) (e : Entry) : Type 0 where
  pub link : (f : ℕ) → f < s.k → e.link.0 ≡ (link_number s x f).0 → ⊥
  pub old : e.old.0 ≡ x.0 → ⊥

-- p₀ is the pool at the opening
pub record Left (s : Sizes) (p₀ p : Pool) (k i : ℕ) (x : RecordNumber) : Type 0 where
  pub used : used_at p x ≡ true
  pub unreached : (w : ℕ) → Reaches s p w x → ⊥
  pub unheld : held_at p x ≡ false
  -- its links hold what they held
  pub links : (f : ℕ) → f < s.k → value_at p (link_number s x f) ≡ value_at p₀ (link_number s x f)
  -- it has a maker only whose log is still to be taken
  pub maker : (v : ℕ) → maker_at p x ≡ suc v → taken_below s k i ≤ v
  -- the logs written since their worker's was taken say nothing of it
  pub logs : (w : ℕ) → w < taken_below s k i → Each (Foreign s x) (log_at p w)

pub record Holder (s : Sizes) (R : RecordNumber → Type 0) (l : LinkNumber) : Type 0 where
  pub who : RecordNumber
  pub which : ℕ
  pub remains : R who
  pub inside : which < s.k
  pub number : l.0 ≡ (link_number s who which).0

pub record Remains (s : Sizes) (p₀ p : Pool) (R : RecordNumber → Type 0) (k i : ℕ) : Type 0 where
  pub left : (x : RecordNumber) → R x → Left s p₀ p k i x
  pub holders : (l : LinkNumber) (x : RecordNumber) → R x → value_at p l ≡ x → Holder s R l

pub left_some : {s : Sizes} {p₀ p : Pool} {k i : ℕ} {x : RecordNumber} → Left s p₀ p k i x → 1 ≤ x.0
left_some {s} {p₀} {p} {k} {i} {x} h = on_some p.records.used x.0 h.used

-- ---- a register takes what its worker reaches

module _ {s : Sizes} {p₀ p : Pool} {R : RecordNumber → Type 0} {k i : ℕ} (h : Remains s p₀ p R k i) where
  pub register_remains : (w r : ℕ) (a : RecordNumber) → (1 ≤ a.0 → Reaches s p w a) → Remains s p₀ (with_register w r a p) R k i
  register_remains w r a reached =
      record {
        left =
            λ x y.
            let l = h.left x y in
            record {
              used = l.used;
              unreached = λ v z. l.unreached v (back_register w r a reached v x z);
              unheld = l.unheld;
              links = l.links;
              maker = l.maker;
              logs = l.logs;
            };
        holders = h.holders;
      }

  -- ---- make

  pub makes_remains : Named s p → (w r : ℕ) → 1 ≤ (chosen p).0 → (chosen p).0 ≤ s.n → Remains s p₀ (makes w r p).pool R k i
  unfolding makes
  makes_remains n w r some low =
      record {
        left =
            λ x y.
            let l = h.left x y in
            record {
              used = ⊎_elim (λ z. z ∙ l.used) (λ z. z.1) (with_record_cases p.records.used (chosen p).0 true x.0 false);
              unreached = λ v z. ⊎_elim (λ old. l.unreached v old) (λ new. not_new x l (sym new.1)) (back_made n w r some low v x z);
              unheld = l.unheld;
              links = l.links;
              maker =
                  λ v e.
                  ⊎_elim
                  (λ z. l.maker v (sym z ∙ e))
                  (λ z. absurd (not_new x l (record_same x (chosen p) z.0)))
                  (with_record_cases p.records.maker (chosen p).0 (w + 1) x.0 0);
              logs = l.logs;
            };
        holders = h.holders;
      }
    where
      not_new : (x : RecordNumber) → Left s p₀ p k i x → x ≡ chosen p → ⊥
      not_new x l e = true≢false (sym l.used ∙ ap (λ (b : RecordNumber). used_at p b) e ∙ chosen_free p some)

  -- ---- store, post

  module _ (sound : Sound s p) (w : ℕ) (link : LinkNumber) (r : ℕ) (there : AtHand s p w link) where
    abbrev new : RecordNumber
    new = register_at p w r

    -- what w stores, and what it stores to, it reaches
    not_stored : (x : RecordNumber) → R x → new ≡ x → ⊥
    not_stored x y e = (h.left x y).unreached w (holds r e (left_some (h.left x y)))

    not_through : (x : RecordNumber) → R x → (g : ℕ) → g < s.k → link.0 ≡ (link_number s x g).0 → ⊥
    not_through x y g k e =
        let low = on_low p.records.used x.0 (h.left x y).used in
        (h.left x y).unreached w (there.owner x (left_some (h.left x y)) (omega (arith, sound.shaped.records.used)) g k (sym e))

    not_overwritten : (x : RecordNumber) → R x → value_at p link ≡ x → ⊥
    not_overwritten x y e =
        (h.left x y).unreached w (subst (Reaches s p w) e (there.value (subst (λ (b : RecordNumber). 1 ≤ b.0) (sym e) (left_some (h.left x y)))))

    entry_foreign : (x : RecordNumber) → R x → Foreign s x (record { link = link; old = value_at p link })
    entry_foreign x y = record { link = not_through x y; old = λ e. not_overwritten x y (record_same (value_at p link) x e) }

    stored_value : (l : LinkNumber) → (value_at (link_takes w link r p).pool l ≡ value_at p l) ⊎ ((l.0 ≡ link.0) × (value_at (link_takes w link r p).pool l ≡ new))
    stored_value l =
        subst (λ values. (get_or values l.0 none ≡ value_at p l) ⊎ ((l.0 ≡ link.0) × (get_or values l.0 none ≡ new))) (sym (stored_values s p w link r))
        (set_cases p.links.value link.0 new l.0 none)

    -- what a store does to one record that remains
    record Untouched (x : RecordNumber) (t : Pool) : Type 0 where
      pub used : used_at t x ≡ used_at p x
      pub maker : maker_at t x ≡ maker_at p x
      pub held : held_at t x ≡ false
      pub logs : (v : ℕ) → v < taken_below s k i → Each (Foreign s x) (log_at t v)

    stored_kept : (x : RecordNumber) → R x → Untouched x (link_takes w link r p).pool
    unfolding added
    stored_kept x y =
        stored_has p w link r (Untouched x)
        (λ on t z. record {
          used = z.used;
          maker = z.maker;
          held =
              ⊎_elim
              (λ same. same ∙ l.unheld)
              (λ here. absurd (not_stored x y (sym (record_same x new here.0))))
              (with_record_cases p.records.held new.0 true x.0 false);
          logs = z.logs;
        })
        (λ off. record { used = refl; maker = refl; held = l.unheld; logs = λ v z. logged v z })
        (λ on. record { used = refl; maker = refl; held = l.unheld; logs = l.logs })
      where
        l : Left s p₀ p k i x
        l = h.left x y

        logged : (v : ℕ) → v < taken_below s k i → Each (Foreign s x) (log_at (added w link p) v)
        logged v z =
            ⊎_elim
            (λ same. subst (Each (Foreign s x)) (sym same) (l.logs v z))
            (λ here.
            subst (Each (Foreign s x)) (sym here.1)
            (Each-append (Foreign s x) (log_at p w) (record { link = link; old = value_at p link } ∷ []) (l.logs w (subst (λ (u : ℕ). u < taken_below s k i) here.0 z)) (entry_foreign x y, tt)))
            (set_cases p.workers.log w (log_at p w ++ (record { link = link; old = value_at p link } ∷ [])) v [])

    pub link_takes_remains : Remains s p₀ (link_takes w link r p).pool R k i
    link_takes_remains =
        record {
          left =
              λ x y.
              let l = h.left x y in
              let c = stored_kept x y in
              record {
                used = c.used ∙ l.used;
                unreached = λ v z. ⊎_elim (l.unreached v) (l.unreached w) (back_stored s p w link r v x z);
                unheld = c.held;
                links =
                    λ g m.
                    ⊎_elim (λ same. same ∙ l.links g m) (λ here. absurd (not_through x y g m (sym here.0))) (stored_value (link_number s x g));
                maker = λ v e. l.maker v (sym c.maker ∙ e);
                logs = c.logs;
              };
          holders =
              λ l x y e.
              ⊎_elim (λ same. h.holders l x y (sym same ∙ e)) (λ here. absurd (not_stored x y (sym here.1 ∙ e))) (stored_value l);
        }

-- ---- the collector

-- a change that brings nothing into reach and leaves the record's used mark and links
pub left_by : {s : Sizes} {p₀ p : Pool} {k i : ℕ} {x : RecordNumber} (q : Pool) (k' i' : ℕ) → Left s p₀ p k i x → Shrunk p q
    → used_at q x ≡ used_at p x
    → held_at q x ≡ false
    → ((f : ℕ) → f < s.k → value_at q (link_number s x f) ≡ value_at p (link_number s x f))
    → ((v : ℕ) → maker_at q x ≡ suc v → taken_below s k' i' ≤ v)
    → ((w : ℕ) → w < taken_below s k' i' → Each (Foreign s x) (log_at q w))
    → Left s p₀ q k' i' x
left_by {s} {p₀} {p} q k' i' l shrunk used held links maker logs =
    record {
      used = used ∙ l.used;
      unreached = λ w z. l.unreached w (reach_shrinks p q shrunk.registers shrunk.values z);
      unheld = held;
      links = λ f m. links f m ∙ l.links f m;
      maker = maker;
      logs = logs;
    }

-- of a pool in its own phase at its own position
abbrev pub Remaining : Sizes → Pool → (RecordNumber → Type 0) → Pool → Type 0
Remaining s p₀ R p = Remains s p₀ p R p.collector.phase p.collector.position

module _ {s : Sizes} {p₀ p : Pool} {R : RecordNumber → Type 0} (sound : Sound s p) (remaining : Remaining s p₀ R p) where
  abbrev here : ℕ
  here = p.collector.position

  pub remains_in : (k : ℕ) → p.collector.phase ≡ k → Remains s p₀ p R k here
  remains_in k e = subst (λ (n : ℕ). Remains s p₀ p R n here) e remaining

  -- where the collector arrives with registers, links and used marks as they were
  arrives_remaining : {k : ℕ} (h : Remains s p₀ p R k here) (q : Pool) (k' i' : ℕ)
      → q.records.used ≡ p.records.used
      → q.links.value ≡ p.links.value
      → q.workers.registers ≡ p.workers.registers
      → ((x : RecordNumber) → R x → held_at q x ≡ false)
      → ((x : RecordNumber) → R x → (v : ℕ) → maker_at q x ≡ suc v → taken_below s k' i' ≤ v)
      → ((x : RecordNumber) → R x → (w : ℕ) → w < taken_below s k' i' → Each (Foreign s x) (log_at q w))
      → Remaining s p₀ R (moved k' i' q)
  arrives_remaining h q k' i' used values registers held maker logs =
      record {
        left =
            λ x y.
            left_by (moved k' i' q) k' i' (h.left x y)
            (record {
              registers = λ v r. ap (λ rows. get_or (get_or rows v []) r none) registers;
              values = λ l. inl (ap (λ table. get_or table l.0 none) values);
            })
            (ap (λ table. of_record table x.0 false) used)
            (held x y)
            (λ f m. ap (λ table. get_or table (link_number s x f).0 none) values)
            (maker x y)
            (logs x y);
        holders = λ l x y e. h.holders l x y (sym (ap (λ table. get_or table l.0 none) values) ∙ e);
      }

  pub opens_remaining : p.collector.phase ≡ 0 → Remaining s p₀ R (opens s p).pool
  unfolding opens
  opens_remaining e =
      let h = remains_in 0 e in
      arrives_remaining h p 1 0 refl refl refl (λ x y. (h.left x y).unheld) (λ x y v z. zero-le) (λ x y w z. absurd (omega arith))

  pub snoops_remaining : p.collector.phase ≡ 1 → Remaining s p₀ R (snoops s p).pool
  snoops_remaining e =
      let h = remains_in 1 e in
      let q : Pool = with_snoop here true p in
      snoops_cases s p (Remaining s p₀ R) e
      (λ k. arrives_remaining h q 1 (suc here) refl refl refl (λ x y. (h.left x y).unheld) (λ x y v z. zero-le) (λ x y w z. absurd (omega arith)))
      (λ k. arrives_remaining h q 2 0 refl refl refl (λ x y. (h.left x y).unheld) (λ x y v z. zero-le) (λ x y w z. absurd (omega arith)))

  pub takes_remaining : p.collector.phase ≡ 2 → Remaining s p₀ R (takes s p).pool
  unfolding made_by
  takes_remaining e =
      takes_cases s p (Remaining s p₀ R) e (λ k. arrives 2 (suc here) (omega arith)) (λ k some. arrives 3 0 k) (λ k f. arrives 4 0 k)
    where
      h : Remains s p₀ p R 2 here
      h = remains_in 2 e

      r : Pool
      r = with_log here [] (with_history (p.history ++ log_at p here) p)

      q : Pool
      q = made_by here r

      there : here < length p.workers.log
      there = omega (arith, position_in sound 2 e, sound.shaped.workers.log)

      -- the maker whose log is taken makes nothing any more
      makers : (x : RecordNumber) → R x → (v : ℕ) → maker_at q x ≡ suc v → suc here ≤ v
      makers x y v z =
          ⊎_elim
          (λ own. absurd (omega (arith, made_own here r x own.0)))
          (λ other.
          let same : maker_at p x ≡ suc v = sym (made_other here r x other.0) ∙ z in
          let before : here ≤ v = (h.left x y).maker v same in
          let n = other.0 in
          omega arith)
          (eqb_cases (maker_at p x) (here + 1))

      logs : (x : RecordNumber) → R x → (w : ℕ) → w < suc here → Each (Foreign s x) (log_at q w)
      logs x y = set_next (Each (Foreign s x)) [] p.workers.log here [] there tt (h.left x y).logs

      arrives : (k i : ℕ) → taken_below s k i ≤ suc here → Remaining s p₀ R (moved k i q)
      arrives k i below =
          arrives_remaining h q k i refl refl refl (λ x y. (h.left x y).unheld)
          (λ x y v z. let late = makers x y v z in omega arith)
          (λ x y w z. logs x y w (omega arith))

  pub clears_remaining : p.collector.phase ≡ 3 → Remaining s p₀ R (clears s p).pool
  clears_remaining e =
      let h = remains_in 3 e in
      let q : Pool = with_changed (entry_here p).link false p in
      clears_cases s p (Remaining s p₀ R) e
      (λ k. arrives_remaining h q 3 (suc here) refl refl refl (λ x y. (h.left x y).unheld) (λ x y. (h.left x y).maker) (λ x y. (h.left x y).logs))
      (λ k. arrives_remaining h q 4 0 refl refl refl (λ x y. (h.left x y).unheld) (λ x y. (h.left x y).maker) (λ x y. (h.left x y).logs))

  pub scans_remaining : p.collector.phase ≡ 4 → Remaining s p₀ R (scans s p).pool
  scans_remaining e =
      scans_cases s p (Remaining s p₀ R) e
      (λ k. arrives_remaining h q 4 (suc here) refl refl refl still_unheld (λ x y. (h.left x y).maker) (λ x y. (h.left x y).logs))
      (λ k some. arrives_remaining h q 5 0 refl refl refl still_unheld (λ x y. (h.left x y).maker) (λ x y. (h.left x y).logs))
      (λ k f. arrives_remaining h q 6 0 refl refl refl still_unheld (λ x y. (h.left x y).maker) (λ x y. (h.left x y).logs))
    where
      h : Remains s p₀ p R 4 here
      h = remains_in 4 e

      q : Pool
      q = with_held (held_by (registers_at p here) p.records.held) (with_snoop here false p)

      -- what no worker reaches is in no register
      still_unheld : (x : RecordNumber) → R x → held_at q x ≡ false
      still_unheld x y =
          held_by_other (registers_at p here) p.records.held x.0
          (λ r z. (h.left x y).unreached here (holds r (record_same (register_at p here r) x z) (left_some (h.left x y))))
          ∙ (h.left x y).unheld

  pub counts_remaining : p.collector.phase ≡ 5 → Remaining s p₀ R (counts s p).pool
  unfolding counted falls rises
  counts_remaining e =
      let h = remains_in 5 e in
      let q : Pool = counted (entry_here p) p in
      counts_cases s p (Remaining s p₀ R) e
      (λ k. arrives_remaining h (with_history p.history q) 5 (suc here) refl refl refl (λ x y. (h.left x y).unheld) (λ x y. (h.left x y).maker) (λ x y. (h.left x y).logs))
      (λ k. arrives_remaining h (with_history [] q) 6 0 refl refl refl (λ x y. (h.left x y).unheld) (λ x y. (h.left x y).maker) (λ x y. (h.left x y).logs))
