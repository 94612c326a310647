use Rattle.std.proofs.Common.{◌≡◌, ◌+◌, ◌≤◌, ◌∙◌, ap, sym, subst, length, arith, refl}
use Rattle.std.specs.List.{All}
use Rattle.std.proofs.lemmas.Result.{err_from_is_err_and}
use Rattle.emp_kkt.specs.Items.{items, items_of, asked_kinds, asked_pairs}
use Rattle.emp_kkt.specs.Making.{ItemFits}
use Rattle.emp_kkt.proofs.Within.{items_fit}
use Rattle.emp_kkt.proofs.Ending.{many_items, quantities_fault, objective_fault, sound, kkt}
use Rattle.emp_kkt.proofs.make.system_of.Goals as goal

pub returns-then-len-gt512 : goal.returns-then-len-gt512
returns-then-len-gt512 c =
    let e : c.in_ok-items.items ≡ items c.args.problem.now = c.in_ok-items.ensures ∙ ap items_of c.requires.conditions in
    let n : length c.in_ok-items.items ≡ length (items c.args.problem.now) = ap length e in
    many_items c.args.problem.now c.requires.fit (omega (arith, n))

pub rows_of-requires-clause-fit : goal.rows_of-requires-clause-fit
rows_of-requires-clause-fit c =
    let e : c.in_ok-items.items ≡ items c.args.problem.now = c.in_ok-items.ensures ∙ ap items_of c.requires.conditions in
    subst (λ is. All (ItemFits c.args.problem.now) is) (sym (c.as_slice.ensures ∙ e)) (items_fit c.args.problem.now c.requires.fit)

pub returns-in_err-quantities : goal.returns-in_err-quantities
returns-in_err-quantities c =
    let e : c.in_ok-items.items ≡ items c.args.problem.now = c.in_ok-items.ensures ∙ ap items_of c.requires.conditions in
    let l : length c.as_slice.result.now ≤ 512 = omega (arith, ap length c.as_slice.ensures) in
    let p = err_from_is_err_and c.from_residual-in_err-quantities.result c.from_residual-in_err-quantities.ensures.1 in
    rw (p.1, p.2)
    (quantities_fault c.args.problem.now c.args.extras.now (c.len-2.result + length c.args.extras.now) c.as_slice.result.now c.requires.fit c.requires.layout (ap (λ n. n + length c.args.extras.now) c.len-2.ensures) (c.as_slice.ensures ∙ e) l c.in_err-quantities.field-0.0 c.in_err-quantities.ensures)

pub returns-in_err-objective : goal.returns-in_err-objective
returns-in_err-objective c =
    let e : c.in_ok-items.items ≡ items c.args.problem.now = c.in_ok-items.ensures ∙ ap items_of c.requires.conditions in
    let l : length c.as_slice.result.now ≤ 512 = omega (arith, ap length c.as_slice.ensures) in
    let k : c.len-3.result + 1 ≡ length c.as_slice.result.now + 1 = omega (arith, ap length c.as_slice.ensures) in
    let p = err_from_is_err_and c.from_residual-in_err-objective.result c.from_residual-in_err-objective.ensures.1 in
    rw (p.1, p.2)
    (objective_fault c.args.problem.now c.args.extras.now (c.len-2.result + length c.args.extras.now) c.as_slice.result.now c.requires.fit c.requires.layout (ap (λ n. n + length c.args.extras.now) c.len-2.ensures) (c.as_slice.ensures ∙ e) l c.in_ok-quantities.quantities (c.len-3.result + 1) c.in_err-objective.field-0.0 c.in_ok-quantities.ensures k c.in_err-objective.ensures)

pub invariant_of-result : goal.invariant_of-result
invariant_of-result c =
    let e : c.in_ok-items.items ≡ items c.args.problem.now = c.in_ok-items.ensures ∙ ap items_of c.requires.conditions in
    let l : length c.as_slice.result.now ≤ 512 = omega (arith, ap length c.as_slice.ensures) in
    record {
      sound = sound c.args.problem.now c.args.extras.now (c.len-2.result + length c.args.extras.now) c.as_slice.result.now c.requires.fit c.requires.layout (ap (λ n. n + length c.args.extras.now) c.len-2.ensures) (c.as_slice.ensures ∙ e) l c.in_ok-quantities.quantities c.in_ok-kinds.kinds c.in_ok-pairs.pairs c.in_ok-objective.objective c.in_ok-quantities.ensures (c.in_ok-kinds.ensures ∙ ap asked_kinds c.requires.conditions) (c.in_ok-pairs.ensures ∙ ap (asked_pairs 0) c.requires.conditions) c.in_ok-objective.ensures;
    }

pub returns : goal.returns
returns c =
    let e : c.in_ok-items.items ≡ items c.args.problem.now = c.in_ok-items.ensures ∙ ap items_of c.requires.conditions in
    let l : length c.as_slice.result.now ≤ 512 = omega (arith, ap length c.as_slice.ensures) in
    kkt c.args.problem.now c.args.extras.now (c.len-2.result + length c.args.extras.now) c.as_slice.result.now c.requires.fit c.requires.layout (ap (λ n. n + length c.args.extras.now) c.len-2.ensures) (c.as_slice.ensures ∙ e) l
    _
    refl c.in_ok-quantities.ensures (c.in_ok-kinds.ensures ∙ ap asked_kinds c.requires.conditions) (c.in_ok-pairs.ensures ∙ ap (asked_pairs 0) c.requires.conditions) c.in_ok-objective.ensures
