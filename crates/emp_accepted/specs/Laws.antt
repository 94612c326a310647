-- The laws of accepted pairs, as statements.
use Rattle.std.specs.Prelude.{◌≢◌, Err}
use Rattle.emp_ast.specs.declared.model.Model.{Model}
use Rattle.emp_ast.specs.declared.annot.Annot.{Annot}
use Rattle.emp_owner.specs.declared.owned.OwnFault.{OwnFault}
use Rattle.emp_owner.specs.declared.owned.OwnFault.TheVariants as OwnWords
use Rattle.emp_owner.specs.Settled.{IsFirstBroken}
use Rattle.emp_poly.specs.declared.tree.PolyFault.TheVariants as PolyWords
use Rattle.emp_solution.specs.declared.state.Stated.{Stated}
use Rattle.emp_solution.specs.declared.state.StateFault.{StateFault}
use Rattle.emp_solution.specs.declared.state.StateFault.TheVariants.{Poly, Quadratic, LeaderNotLinear, NotConvex, WideCurve, TooLarge, WideRow, NoMemory}
use Rattle.emp_solution.specs.Stated.{IsStated, StateGives}
use Rattle.emp_accepted.specs.Accepted.{IsAcceptedPair}

-- a number that is formed is wide, or memory is wanted
abbrev pub IsWideFault : StateFault → Type 0
IsWideFault (Poly (PolyWords.Wide p)) = Unit {0}
IsWideFault (Poly (PolyWords.Degree p)) = ⊥
IsWideFault (Poly (PolyWords.DivideByVariable p)) = ⊥
IsWideFault (Poly (PolyWords.DivideByZero p)) = ⊥
IsWideFault (Poly PolyWords.NoMemory) = Unit {0}
IsWideFault (Quadratic e u v) = ⊥
IsWideFault (LeaderNotLinear u v) = ⊥
IsWideFault (NotConvex b k) = ⊥
IsWideFault (WideCurve b k) = Unit {0}
IsWideFault TooLarge = ⊥
IsWideFault (WideRow k) = Unit {0}
IsWideFault NoMemory = Unit {0}

-- an accepted pair has no fault but that a number is wide
abbrev pub AcceptedAreStated : Type 0
AcceptedAreStated = (m : Model) (a : Annot) (f : StateFault) → IsAcceptedPair m a → StateGives m a (Err f) → IsWideFault f

-- a pair that has its row system is accepted
abbrev pub StatedAreAccepted : Type 0
StatedAreAccepted = (m : Model) (a : Annot) (s : Stated) → IsStated m a s → IsAcceptedPair m a

-- an accepted pair breaks no rule of ownership
abbrev pub AcceptedBreakNone : Type 0
AcceptedBreakNone = (m : Model) (a : Annot) (f : OwnFault) → f ≢ OwnWords.NoMemory → IsAcceptedPair m a → IsFirstBroken m a f → ⊥
