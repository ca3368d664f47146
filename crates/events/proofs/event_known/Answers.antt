-- `events::event_known` meets its contract: in each arm the event's own contract, at the tables at entry, is what is to be shown. Assumes nothing.
use Rattle.tables.specs.Lent.{contents}
use Rattle.events.proofs.event_known.Goals as goal

pub makes-answer-requires : goal.makes-answer-requires
makes-answer-requires c = (contents c.args.t.now, c.args.c, c.requires)

pub moves-answer-requires : goal.moves-answer-requires
moves-answer-requires c = (contents c.args.t.now, c.args.c, c.requires)

pub drops-answer-requires : goal.drops-answer-requires
drops-answer-requires c = (contents c.args.t.now, c.args.c, c.requires)

pub loads-answer-requires : goal.loads-answer-requires
loads-answer-requires c = (contents c.args.t.now, c.args.c, c.requires)

pub stores-answer-requires : goal.stores-answer-requires
stores-answer-requires c = (contents c.args.t.now, c.args.c, c.requires)

pub looks-answer-requires : goal.looks-answer-requires
looks-answer-requires c = (contents c.args.t.now, c.args.c, c.requires)

pub posts-answer-requires : goal.posts-answer-requires
posts-answer-requires c = (contents c.args.t.now, c.args.c, c.requires)

pub returns-in-Make-clause-done : goal.returns-in-Make-clause-done
returns-in-Make-clause-done c =
    rw c.in-Make.is (c.makes-answer.ensures (contents c.args.t.now) c.args.c c.requires)

pub returns-in-Move-clause-done : goal.returns-in-Move-clause-done
returns-in-Move-clause-done c =
    rw c.in-Move.is (c.moves-answer.ensures (contents c.args.t.now) c.args.c c.requires)

pub returns-in-Drop-clause-done : goal.returns-in-Drop-clause-done
returns-in-Drop-clause-done c =
    rw c.in-Drop.is (c.drops-answer.ensures (contents c.args.t.now) c.args.c c.requires)

pub returns-in-Load-clause-done : goal.returns-in-Load-clause-done
returns-in-Load-clause-done c =
    rw c.in-Load.is (c.loads-answer.ensures (contents c.args.t.now) c.args.c c.requires)

pub returns-in-Store-clause-done : goal.returns-in-Store-clause-done
returns-in-Store-clause-done c =
    rw c.in-Store.is (c.stores-answer.ensures (contents c.args.t.now) c.args.c c.requires)

pub returns-in-Look-clause-done : goal.returns-in-Look-clause-done
returns-in-Look-clause-done c =
    rw c.in-Look.is (c.looks-answer.ensures (contents c.args.t.now) c.args.c c.requires)

pub returns-in-Post-clause-done : goal.returns-in-Post-clause-done
returns-in-Post-clause-done c =
    rw c.in-Post.is (c.posts-answer.ensures (contents c.args.t.now) c.args.c c.requires)
