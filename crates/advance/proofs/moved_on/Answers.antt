-- `advance::moved_on` meets its contract: the tests in the code are the definition's. Assumes nothing.
use Rattle.std.proofs.Common.{suc, sym, ◌∙◌, add-one, arith, le-leb}
use borrow.Author.Tests.{lt-leb}
use Rattle.advance.proofs.Moved.{closing-moves, others_move}
use Rattle.advance.proofs.moved_on.Goals as goal

pub returns-then-c-eq6 : goal.returns-then-c-eq6
returns-then-c-eq6 c history h =
    let at = c.args in
    (λ j. record { phase = 0; position = 0; closed = c.next_closed.ensures j }) ∙ sym (closing-moves at.positions history at.c (omega arith))

pub returns-then-next-positions : goal.returns-then-next-positions
returns-then-next-positions c history h =
    let at = c.args in
    rw (others_move at.positions history at.c (λ e. omega arith))
    rw (lt-leb at.positions (suc at.c.position) (omega arith))
    (λ j. record { phase = at.c.phase; position = add-one at.c.position j; closed = at.c.closed })

pub returns : goal.returns
returns c history h =
    let at = c.args in
    rw (others_move at.positions history at.c (λ e. omega arith))
    rw (le-leb at.positions (suc at.c.position) (omega arith))
    (λ j. record { phase = c.phase_after.ensures history h j; position = 0; closed = at.c.closed })
