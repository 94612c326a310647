use Rattle.std.proofs.Common.{subst}
use Rattle.emp_reform.proofs.then.ThenReform.back.Goals as goal

-- the middle point stands for the image by the second
pub back-requires-2-clause-fits : goal.back-requires-2-clause-fits
back-requires-2-clause-fits g c =
    let s = c.args.self.now in
    let p = c.requires.fits.point in
    record {
      point = g.B.Reform.image s.second p;
      stood_for = (c.in_ok-middle.ensures p c.requires.fits.stood_for).0;
      fitting = subst (λ t. g.A.Dst.Problem.fits t (g.B.Reform.image s.second p)) c.requires.whole.0 (g.met.B.Reform.keeps s.second p c.requires.whole.2 c.requires.fits.fitting);
    }
