-- `adoption::adopt` meets its contract. Assumes nothing.
use mathlib.Core.Path.{sym, ◌∙◌}
use Rattle.adoption.proofs.Answers.{accepted_fit, floats_refused, words_refused, floats_accepted, words_accepted}
use Rattle.adoption.proofs.adopt.Goals as goal

pub returns-in_err-adoption_answer-clause-floats : goal.returns-in_err-adoption_answer-clause-floats
returns-in_err-adoption_answer-clause-floats c = sym (floats_refused _ _ _ _ (sym c.adoption_answer.ensures ∙ c.in_err-adoption_answer.was))

pub returns-in_err-adoption_answer-clause-words : goal.returns-in_err-adoption_answer-clause-words
returns-in_err-adoption_answer-clause-words c = sym (words_refused _ _ _ _ (sym c.adoption_answer.ensures ∙ c.in_err-adoption_answer.was))

pub adopt_pairs-requires : goal.adopt_pairs-requires
adopt_pairs-requires c = accepted_fit _ _ _ _ (sym c.adoption_answer.ensures ∙ c.in_ok-adoption_answer.was)

pub returns-clause-floats : goal.returns-clause-floats
returns-clause-floats c = c.adopt_pairs.ensures.floats ∙ sym (floats_accepted _ _ _ _ (sym c.adoption_answer.ensures ∙ c.in_ok-adoption_answer.was))

pub returns-clause-words : goal.returns-clause-words
returns-clause-words c = c.adopt_pairs.ensures.words ∙ sym (words_accepted _ _ _ _ (sym c.adoption_answer.ensures ∙ c.in_ok-adoption_answer.was))
