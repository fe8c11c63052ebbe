use Rattle.std.proofs.Common.{[], map, string_bytes, sym}
use Rattle.asp_top.proofs.Written.{used_given, used_only, word_used_given, word_used_only, word_unused, refuses_word, says_word, begins_word, says_answer, shows_answer, begins_answer}
use Rattle.asp_top.proofs.Written.{not_read}
use Rattle.asp_top.proofs.run.run_single.Goals as goal

pub returns-in-Err-clause-words_refused : goal.returns-in-Err-clause-words_refused
returns-in-Err-clause-words_refused g c =
    λ place told remembered.
    refuses_word _ _ _ _ c.refuse_word.result (map string_bytes c.args.words.now) c.in-Err.place (sym c.in-Err.ensures.task) c.refuse_word.ensures place told

pub returns-in-Err-clause-answer : goal.returns-in-Err-clause-answer
returns-in-Err-clause-answer g c =
    λ written bytes told.
    says_word _ _ _ _ c.refuse_word.result (map string_bytes c.args.words.now) c.in-Err.place (sym c.in-Err.ensures.task) c.refuse_word.ensures bytes written

pub returns-in-Err-clause-answer_to_some : goal.returns-in-Err-clause-answer_to_some
returns-in-Err-clause-answer_to_some g c =
    λ written. ([], says_word _ _ _ _ c.refuse_word.result (map string_bytes c.args.words.now) c.in-Err.place (sym c.in-Err.ensures.task) c.refuse_word.ensures [] written)

pub returns-in-Err-clause-part_written : goal.returns-in-Err-clause-part_written
returns-in-Err-clause-part_written g c =
    λ failed bytes told.
    begins_word _ _ _ _ c.refuse_word.result (map string_bytes c.args.words.now) c.in-Err.place (sym c.in-Err.ensures.task) c.refuse_word.ensures bytes failed

pub returns-in-Err-clause-part_of_some : goal.returns-in-Err-clause-part_of_some
returns-in-Err-clause-part_of_some g c =
    λ failed. ([], begins_word _ _ _ _ c.refuse_word.result (map string_bytes c.args.words.now) c.in-Err.place (sym c.in-Err.ensures.task) c.refuse_word.ensures [] failed)

pub returns-in-Err-clause-used : goal.returns-in-Err-clause-used
returns-in-Err-clause-used g c =
    λ solved. word_used_given _ _ _ _ c.refuse_word.result c.in-Err.place c.refuse_word.ensures solved

pub returns-in-Err-clause-used_only : goal.returns-in-Err-clause-used_only
returns-in-Err-clause-used_only g c =
    λ some. word_used_only _ _ _ _ c.refuse_word.result c.in-Err.place c.refuse_word.ensures some

pub returns-in-Err-clause-evidence : goal.returns-in-Err-clause-evidence
returns-in-Err-clause-evidence g c =
    λ used given. word_unused _ _ _ _ c.refuse_word.result c.in-Err.place c.refuse_word.ensures used given

pub returns-in-Err-clause-evidence_of_some : goal.returns-in-Err-clause-evidence_of_some
returns-in-Err-clause-evidence_of_some g c =
    λ used given. word_unused _ _ _ _ c.refuse_word.result c.in-Err.place c.refuse_word.ensures used given

pub returns-in-Ok-answer-clause-answer : goal.returns-in-Ok-answer-clause-answer
returns-in-Ok-answer-clause-answer g c =
    λ written bytes told.
    says_answer _ _ _ _ c.say.result (map string_bytes c.args.words.now) c.in-Ok.command bytes c.in-Ok-answer.answer
    (sym c.in-Ok.ensures.task) (c.in-Ok-answer.ensures.right bytes told) c.say.ensures written

pub returns-in-Ok-answer-clause-answer_to_some : goal.returns-in-Ok-answer-clause-answer_to_some
returns-in-Ok-answer-clause-answer_to_some g c =
    λ written.
    let right = c.in-Ok-answer.ensures.right_of_some in (
      right.0,
      says_answer _ _ _ _ c.say.result (map string_bytes c.args.words.now) c.in-Ok.command right.0 c.in-Ok-answer.answer
          (sym c.in-Ok.ensures.task) right.1 c.say.ensures written,
    )

pub returns-in-Ok-answer-clause-part_written : goal.returns-in-Ok-answer-clause-part_written
returns-in-Ok-answer-clause-part_written g c =
    λ failed bytes told.
    begins_answer _ _ _ _ c.say.result (map string_bytes c.args.words.now) c.in-Ok.command bytes c.in-Ok-answer.answer
    (sym c.in-Ok.ensures.task) (c.in-Ok-answer.ensures.right bytes told) c.say.ensures failed

pub returns-in-Ok-answer-clause-part_of_some : goal.returns-in-Ok-answer-clause-part_of_some
returns-in-Ok-answer-clause-part_of_some g c =
    λ failed.
    let right = c.in-Ok-answer.ensures.right_of_some in (
      right.0,
      begins_answer _ _ _ _ c.say.result (map string_bytes c.args.words.now) c.in-Ok.command right.0 c.in-Ok-answer.answer
          (sym c.in-Ok.ensures.task) right.1 c.say.ensures failed,
    )

pub returns-in-Ok-answer-clause-used : goal.returns-in-Ok-answer-clause-used
returns-in-Ok-answer-clause-used g c =
    λ solved. used_given _ _ _ _ c.say.result c.in-Ok-answer.answer c.say.ensures solved

pub returns-in-Ok-answer-clause-used_only : goal.returns-in-Ok-answer-clause-used_only
returns-in-Ok-answer-clause-used_only g c =
    λ some. used_only _ _ _ _ c.say.result c.in-Ok-answer.answer c.say.ensures some

pub returns-in-Ok-answer-clause-evidence : goal.returns-in-Ok-answer-clause-evidence
returns-in-Ok-answer-clause-evidence g c =
    λ used given bytes told.
    shows_answer _ _ _ _ c.say.result (map string_bytes c.args.words.now) c.in-Ok.command bytes c.in-Ok-answer.answer
    (sym c.in-Ok.ensures.task) (c.in-Ok-answer.ensures.right bytes told) c.say.ensures used given

pub returns-in-Ok-answer-clause-evidence_of_some : goal.returns-in-Ok-answer-clause-evidence_of_some
returns-in-Ok-answer-clause-evidence_of_some g c =
    λ used given.
    let right = c.in-Ok-answer.ensures.right_of_some in (
      right.0,
      shows_answer _ _ _ _ c.say.result (map string_bytes c.args.words.now) c.in-Ok.command right.0 c.in-Ok-answer.answer
          (sym c.in-Ok.ensures.task) right.1 c.say.ensures used given,
    )

pub returns-in-Err-clause-all_read : goal.returns-in-Err-clause-all_read
returns-in-Err-clause-all_read g c =
    λ task read. not_read (map string_bytes c.args.words.now) c.in-Err.place task (sym c.in-Err.ensures.task) read
