use Rattle.asp_defs.proofs.WordLaws as laws
use Rattle.asp_defs.proofs.laws_text.words_are_refused_in_place.Goals as goal

pub returns : goal.returns
returns c = record { near = laws.refused_words_are_near; empty = laws.empty_words_are_refused }
