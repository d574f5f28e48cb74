-- `setting::set_param` meets its contract. Assumes nothing.
use mathlib.Core.Path.{sym, ◌∙◌}
use Rattle.setting.proofs.Setting.{floats_refused, words_refused}
use Rattle.setting.proofs.set_param.Goals as goal

pub returns-in_err-setting_answer-clause-floats : goal.returns-in_err-setting_answer-clause-floats
returns-in_err-setting_answer-clause-floats c =
    let a = c.args in
    sym (floats_refused a.nodes a.id a.values.now a.ramp a.node_floats.now a.node_words.now (sym c.setting_answer.ensures ∙ c.in_err-setting_answer.was))

pub returns-in_err-setting_answer-clause-words : goal.returns-in_err-setting_answer-clause-words
returns-in_err-setting_answer-clause-words c =
    let a = c.args in
    sym (words_refused a.nodes a.id a.values.now a.ramp a.node_floats.now a.node_words.now (sym c.setting_answer.ensures ∙ c.in_err-setting_answer.was))
