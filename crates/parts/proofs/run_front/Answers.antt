-- `parts::run_front` meets its contract: what is lent are the arrays' beginnings, and what comes back is put there. Assumes nothing.
use mathlib.Core.List.{[]}
use Rattle.tables.specs.Tables.{lent}
use Rattle.parts.specs.Arrays.{front}
use Rattle.parts.proofs.Front.{runs_back}
use Rattle.parts.proofs.run_front.Goals as goal

pub run_lent-requires-clause-known : goal.run_lent-requires-clause-known
unfolding front
run_lent-requires-clause-known g c =
    rw (
      c.word_count-words.ensures,
      c.from-records.ensures,
      c.from.ensures,
      c.word_count.ensures,
      c.last_place.ensures,
      c.from-workers.ensures,
      c.from-room.ensures,
      c.link_count-links.ensures.0,
    ) c.requires.known

pub returns-clause-ran : goal.returns-clause-ran
unfolding front
returns-clause-ran g c =
    let last = c.run_lent.new in
    let left =
    lent last.used last.counts last.held last.candidates last.makers last.values last.changed last.registers last.snoops last.logs last.history last.lengths in
    rw (
      c.word_count-words.ensures,
      c.from-records.ensures,
      c.from.ensures,
      c.word_count.ensures,
      c.last_place.ensures,
      c.from-workers.ensures,
      c.from-room.ensures,
      c.link_count-links.ensures.0,
    )
    (runs_back c.requires.within c.requires.long c.requires.known c.args.bytes.now c.args.place c.args.step [] {x = record { ran = c.run_lent.result; tables = left; answers = [] }}
    (rw (
      c.word_count-words.ensures,
      c.from-records.ensures,
      c.from.ensures,
      c.word_count.ensures,
      c.last_place.ensures,
      c.from-workers.ensures,
      c.from-room.ensures,
      c.link_count-links.ensures.0,
    ) at c.run_lent.ensures.ran))

pub returns-clause-told : goal.returns-clause-told
unfolding front
returns-clause-told g c =
    rw (
      c.word_count-words.ensures,
      c.from-records.ensures,
      c.from.ensures,
      c.word_count.ensures,
      c.last_place.ensures,
      c.from-workers.ensures,
      c.from-room.ensures,
      c.link_count-links.ensures.0,
    ) at c.run_lent.ensures.told
