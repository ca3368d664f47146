-- `Answers::tell` meets its contract: the event's number and value are put where there is room. Assumes nothing.
use mathlib.Core.Path.{ap, ◌∙◌}
use mathlib.Core.List.{List}
use Prim.Native.Nat.{ℕ, ◌+◌, ◌*◌}
use lib.ListN.{set}
use Rattle.trace.specs.declared.teller.Answers.{Answers}
use Rattle.trace.proofs.Put.{put_one, put_nowhere}
use Rattle.trace.proofs.teller.AnswersTeller.tell.Goals as goal
use Rattle.trace.proofs.teller.AnswersTeller.tell.Goals.{then-at-self, else-at-self}

pub returns-clause-told : goal.returns-clause-told
returns-clause-told c =
    let x = c.args.self.now in
    let kept : List ℕ → Answers = λ answers. record { answers = record { ref_ptr = x.answers.ref_ptr; ghost_name = x.answers.ghost_name; now = answers }; events = x.events + 1 } in
    let later : Answers → Answers = λ y. record { answers = y.answers; events = y.events + 1 } in
    elim c.if-at-self.branch [
      | then-at-self w ↦
          ap later w.self-is
          ∙ ap kept
          ((λ j. set (set x.answers.now (x.events * 2) (w.number_of.ensures j)) (x.events * 2 + 1) (w.value_of.ensures j)) ∙ put_one x.events x.answers.now c.args.turn.answer w.if-at-self.true)
      | else-at-self w ↦ ap later w.self-is ∙ ap kept (put_nowhere x.events x.answers.now c.args.turn.answer w.if-at-self.false)
    ]
