use Rattle.std.proofs.Common.{length, arith, sym, ap}
use Rattle.std.proofs.lemmas.List.{length-take-le}
use Rattle.emp_solution.proofs.Fit.{base_reaches}
use Rattle.emp_chain.proofs.kkt.KktReform.back.Goals as goal

pub slice_bounds-of_slice-end : goal.slice_bounds-of_slice-end
slice_bounds-of_slice-end c =
    let reach = base_reaches c.args.self.now.source.problem.now c.args.self.now.target.system.now c.requires.whole.rows in
    let count = c.requires.fits.stood_for.count in
    let fits = c.requires.fits.fitting in
    let same = ap length c.as_slice.ensures in
    sym (length-take-le c.len-count.result c.as_slice.result.now (omega (arith, reach, count, fits, same, c.len-count.ensures)))
