use Rattle.std.proofs.Common.{length, subst}
use Rattle.emp_num.specs.FracSpec.{IsQuotient}
use Rattle.emp_dict.specs.declared.dict.Dict.{Dict}
use Rattle.emp_dict.specs.Dictionary.{line_at}
use Rattle.emp_dict.specs.Dicts.{dictionary_of}
use Rattle.emp_walk.specs.Decisions.{BestFits}
use Rattle.emp_walk.proofs.Deciding.{bounded_is}
use Rattle.emp_walk.proofs.next.is_bounded.Goals as goal

pub returns-in-Some : goal.returns-in-Some
returns-in-Some c =
    let e = dictionary_of c.dictionary-incumbent.result.now in
    let f = c.value-least.result in
    let read = subst (λ n. IsQuotient f (line_at e n).constant (line_at e n).denom) c.quantities.ensures c.value-least.ensures in
    let least = subst (λ (x : Dict). IsQuotient f (line_at (dictionary_of x) (length (dictionary_of x).marks)).constant (line_at (dictionary_of x) (length (dictionary_of x).marks)).denom) c.dictionary-incumbent.ensures read in
    bounded_is c.args.best.now c.in-Some.incumbent (dictionary_of c.args.dict.now) c.args.row c.reaches.result c.value-least.result c.value.result c.in-Some.is (subst BestFits c.in-Some.is c.requires.best) c.args.dict.now.sound c.requires.row least c.value.ensures c.reaches.ensures
