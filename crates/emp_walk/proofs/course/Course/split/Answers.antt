use Rattle.std.proofs.Common.{ap, refl, ℕ, List, ◌∙◌, ◌-◌, ◌∷◌, [], ◌++◌, slice_index_or}
use Rattle.emp_walk.specs.declared.asks.Asks.TheVariants.{Child}
use Rattle.emp_walk.proofs.course.Course.split.Goals as goal

pub returns : goal.returns
returns c =
    let e = c.as_slice.ensures in
    let i = c.args.k - 1 in
    record {
      kept = c.in_ok-dict.dict;
      same = c.in_ok-dict.ensures;
      stack = c.in_ok-push.ensures.ok ∙ ap (λ (ps : List (ℕ × ℕ)). c.args.self.now.stack ++ record { dict = c.in_ok-dict.dict; second = (slice_index_or ps i (0, 0)).1 } ∷ []) e;
      asks = ap (λ (ps : List (ℕ × ℕ)). Child (slice_index_or ps i (0, 0)).0) e;
      dict = refl;
      best = refl;
      written = c.in_ok-push-2.ensures.ok;
      nodes = refl;
      budget = refl;
    }
