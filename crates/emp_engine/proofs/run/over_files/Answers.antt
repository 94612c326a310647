use Rattle.std.proofs.Common.{◌∙◌, sym, subst, string_bytes}
use Rattle.std.proofs.lemmas.List.{length-map}
use Rattle.emp_command.specs.Requests.{asked_of}
use Rattle.emp_outcomes.specs.Steps.{outcome_of}
use Rattle.emp_answers.specs.Steps.{AreTexts}
use Rattle.emp_engine.specs.Run.{over_texts}
use Rattle.emp_engine.proofs.Saying.{said_ends, other_market}
use Rattle.emp_engine.proofs.Ending.{request_texts, request_output, starved_ends, unloaded_ends}
use Rattle.emp_engine.proofs.run.over_files.Goals as goal

pub answer_texts-requires : goal.answer_texts-requires
answer_texts-requires g c = record {
  texts = λ b.
      subst (AreTexts c.args.request.now.verb) (sym c.as_slice.ensures) (request_texts (asked_of c.args.request.now) c.requires.plain c.requires.verb b c.in-Ok.texts (c.in-Ok.ensures.count ∙ sym (length-map c.args.request.now.files.now string_bytes)) c.in-Ok.ensures.short);
  output = request_output (asked_of c.args.request.now) c.requires.plain;
}

pub returns-in-Ok-answer_texts : goal.returns-in-Ok-answer_texts
returns-in-Ok-answer_texts g c words asks =
    let h = c.in-Ok.ensures in
    said_ends words _ _ _ _ _ _ h.none_falls h.keeps (asked_of c.args.request.now) asks c.requires.range c.in-Ok.texts c.as_slice.result.now (outcome_of c.in-Ok-answer_texts.answer) _ c.as_slice.ensures h.texts (over_texts c.as_slice.result.now (outcome_of c.in-Ok-answer_texts.answer) c.in-Ok-answer_texts.ensures) (other_market words (asked_of c.args.request.now) (outcome_of c.in-Ok-answer_texts.answer).status asks c.requires.verb) c.say.ensures.told c.say.ensures.cause

pub returns-in-Ok : goal.returns-in-Ok
returns-in-Ok g c words asks =
    let h = c.in-Ok.ensures in
    starved_ends words _ _ _ _ _ _ h.none_falls h.keeps c.say_refusal.ensures.none_falls (asked_of c.args.request.now) asks c.requires.range _ c.say_refusal.ensures.told c.say_refusal.ensures.cause

pub returns : goal.returns
returns g c words asks =
    let h = c.in-Err.ensures in
    unloaded_ends words _ _ _ _ _ _ h.none_falls h.keeps c.say_refusal-in-Err.ensures.none_falls (asked_of c.args.request.now) asks c.requires.range c.requires.verb c.in-Err.refusal _ h.refused c.say_refusal-in-Err.ensures.told c.say_refusal-in-Err.ensures.cause
