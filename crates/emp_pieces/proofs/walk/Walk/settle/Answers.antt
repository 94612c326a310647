use Rattle.std.proofs.Common.{sym, subst, ◌∙◌}
use Rattle.emp_dict.specs.declared.dict.Dict.{Dict}
use Rattle.emp_dict.specs.Dicts.{dictionary_of}
use Rattle.emp_walk.specs.Fits.{IsAt}
use Rattle.emp_walk.proofs.Deciding.{split_first}
use Rattle.emp_faces.specs.Pieces.{is_open}
use Rattle.emp_faces.proofs.Settled.{open_free}
use Rattle.emp_pieces.proofs.walk.Walk.settle.Goals as goal

pub split-requires : goal.split-requires
split-requires c =
    let d = dictionary_of c.dictionary.result.now in
    let f = split_first c.args.system.now d (is_open d) c.in-Some.k (subst (λ (x : Dict). IsAt c.args.system.now (dictionary_of x)) (sym c.dictionary.ensures) c.requires.at) (open_free d) (sym c.first_open.ensures ∙ c.in-Some.is) in
    (f.above, f.within)
