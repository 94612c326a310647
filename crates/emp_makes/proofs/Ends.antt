-- What is so of every answer of `make`.
use Rattle.std.proofs.Common.{◌≡◌, ◌≢◌, ◌⊎◌, inl, inr, ℕ, arith, refl}
use Rattle.emp_num.proofs.Commons.{common_point, stands_for_common}
use Rattle.emp_ast.specs.declared.model.Model.{Model}
use Rattle.emp_ast.specs.declared.annot.Annot.{Annot}
use Rattle.emp_command.specs.Words.{Asked, default_work}
use Rattle.emp_command.specs.Course.{Outcome}
use Rattle.emp_poly.specs.declared.tree.PolyFault.{PolyFault}
use Rattle.emp_poly.specs.declared.tree.PolyFault.TheVariants as PolyWords
use Rattle.emp_walk.specs.declared.fault.WalkFault.{WalkFault}
use Rattle.emp_walk.specs.declared.fault.WalkFault.TheVariants as WalkWords
use Rattle.emp_solution.specs.declared.state.StateFault.{StateFault}
use Rattle.emp_solution.specs.declared.state.StateFault.TheVariants as StateWords
use Rattle.emp_report.specs.ClassLines.{poly_status}
use Rattle.emp_accepted.specs.Accepted.{IsAcceptedPair}
use Rattle.emp_accepted.specs.Laws.{IsWideFault}
use Rattle.emp_accepted.proofs.Faults.{accepted_are_stated, accepted_break_none}
use Rattle.emp_market.proofs.AcceptMarkets.{markets_are_accepted}
use Rattle.emp_outcomes.specs.Outcomes.{state_status, walk_status, IsNamedFault, Refuses, bad_owner, unstated}
use Rattle.emp_make.specs.Markets.{IsMarket}
use Rattle.emp_makes.specs.Makes.{SumsUp, refused, unfinished, unfilled, wide_output, wide_profit, made}
use Rattle.emp_makes.specs.Laws.{MakesEnd, ShowsSums, MadeShows}
use Rattle.emp_makes.proofs.Deciding.{values_solve}

-- ---- statuses
abbrev IsEnd : ℕ → Type 0
IsEnd status = (status ≡ 0) ⊎ ((status ≡ 19) ⊎ (status ≡ 20))

walk_ends : (f : WalkFault) → f ≢ WalkWords.NoMemory → IsEnd (walk_status f)
walk_ends (WalkWords.Wide node pivot) n = inr (inl refl)
walk_ends (WalkWords.Spent limit) n = inr (inr refl)
walk_ends WalkWords.NoMemory n = absurd (n refl)

poly_ends : (f : PolyFault) → IsNamedFault (StateWords.Poly f) → IsWideFault (StateWords.Poly f) → IsEnd (poly_status f)
poly_ends (PolyWords.Degree p) n h = absurd h
poly_ends (PolyWords.DivideByVariable p) n h = absurd h
poly_ends (PolyWords.DivideByZero p) n h = absurd h
poly_ends (PolyWords.Wide p) n h = inr (inl refl)
poly_ends PolyWords.NoMemory n h = absurd n

wide_ends : (f : StateFault) → IsNamedFault f → IsWideFault f → IsEnd (state_status f)
wide_ends (StateWords.Poly f) n h = poly_ends f n h
wide_ends (StateWords.Quadratic e u v) n h = absurd h
wide_ends (StateWords.LeaderNotLinear u v) n h = absurd h
wide_ends (StateWords.NotConvex b k) n h = absurd h
wide_ends (StateWords.WideCurve b k) n h = inr (inl refl)
wide_ends StateWords.TooLarge n h = absurd h
wide_ends (StateWords.WideRow k) n h = inr (inl refl)
wide_ends StateWords.NoMemory n h = absurd n

module _ (m : Model) (a : Annot) (accepted : IsAcceptedPair m a) where
  refusal_ends : (o : Outcome) → Refuses m a o → IsEnd o.status
  refusal_ends o (bad_owner f n b) = absurd (accepted_break_none m a f n accepted b)
  refusal_ends o (unstated f n k g) = wide_ends f n (accepted_are_stated m a f accepted g)

  sums_end : (r : Asked) (o : Outcome) → SumsUp m a r o → IsEnd o.status
  sums_end r o (refused p h) = refusal_ends p h
  sums_end r o (unfinished s f n i g) = walk_ends f n
  sums_end r o (unfilled s f w i g u) = inr (inl refl)
  sums_end r o (wide_output values w h k) = inr (inl refl)
  sums_end r o (wide_profit values output w h k l) = inr (inl refl)
  sums_end r o (made values output profit stores h k l s) = inl refl

pub makes_end : MakesEnd
makes_end r o range h = sums_end h.model h.annot (markets_are_accepted r.seed r.firms h.model h.annot range.1 h.market) r o h.sums

-- ---- sums are those of an equilibrium
poly_above : (f : PolyFault) → poly_status f ≡ 0 → ⊥
poly_above (PolyWords.Degree p) e = omega (arith, e)
poly_above (PolyWords.DivideByVariable p) e = omega (arith, e)
poly_above (PolyWords.DivideByZero p) e = omega (arith, e)
poly_above (PolyWords.Wide p) e = omega (arith, e)
poly_above PolyWords.NoMemory e = omega (arith, e)

state_above : (f : StateFault) → state_status f ≡ 0 → ⊥
state_above (StateWords.Poly f) e = poly_above f e
state_above (StateWords.Quadratic e u v) k = omega (arith, k)
state_above (StateWords.LeaderNotLinear u v) k = omega (arith, k)
state_above (StateWords.NotConvex b j) k = omega (arith, k)
state_above (StateWords.WideCurve b j) k = omega (arith, k)
state_above StateWords.TooLarge k = omega (arith, k)
state_above (StateWords.WideRow j) k = omega (arith, k)
state_above StateWords.NoMemory k = omega (arith, k)

pub walk_above : (f : WalkFault) → walk_status f ≡ 0 → ⊥
walk_above (WalkWords.Wide node pivot) e = omega (arith, e)
walk_above (WalkWords.Spent limit) e = omega (arith, e)
walk_above WalkWords.NoMemory e = omega (arith, e)

pub refusal_above : (m : Model) (a : Annot) (o : Outcome) → Refuses m a o → o.status ≡ 0 → ⊥
refusal_above m a o (bad_owner f n b) e = omega (arith, e)
refusal_above m a o (unstated f n k g) e = state_above f e

module _ (r : Asked) (m : Model) (a : Annot) (market : IsMarket r.seed r.firms m a) where
  shows : (o : Outcome) → SumsUp m a r o → o.status ≡ 0 → ShowsSums r o
  shows o (refused p k) e = absurd (refusal_above m a p k e)
  shows o (unfinished s f n i g) e = absurd (walk_above f e)
  shows o (unfilled s f w i g u) e = absurd (omega (arith, e))
  shows o (wide_output values w v k) e = absurd (omega (arith, e))
  shows o (wide_profit values output w v k l) e = absurd (omega (arith, e))
  shows o (made values output profit stores v k l s) e = record {
    model = m;
    annot = a;
    market = market;
    values = values;
    point = common_point values;
    stands = stands_for_common values;
    equilibrium = values_solve m a v.stated v.is default_work v.found v.search v.point v.verdict values v.fills;
    output = output;
    profit = profit;
    outputs = k;
    profits = l;
    says = refl;
    stores = s;
  }

pub made_shows : MadeShows
made_shows r o h e = shows r h.model h.annot h.market o h.sums e
