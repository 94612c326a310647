-- The functions of variational inequalities, one by one.
use Rattle.std.proofs.Common.{◌≡◌, ℕ, suc, zero, ◌+◌, ◌<◌, ◌≤◌, pos, List, [], ◌∷◌, ◌++◌, length, get_or, take, map, Option, Some, None, arith, refl, sym, ap, subst, ◌∙◌, append_assoc}
use Rattle.std.specs.Prelude.{slice_get}
use Rattle.std.proofs.lemmas.List.{take_more, take_all, map-append}
use Rattle.emp_ast.specs.declared.tree.VarId.{VarId}
use Rattle.emp_ast.specs.declared.tree.EquId.{EquId}
use Rattle.emp_ast.specs.declared.model.Equation.{Equation}
use Rattle.emp_ast.specs.declared.model.Model.{Model}
use Rattle.emp_form.specs.Form.{Form, form_of}
use Rattle.emp_form.specs.Expansion.{form}
use Rattle.emp_poly.specs.Quads.{HasForm}
use Rattle.emp_poly.specs.Gradient.{LinHasForm}
use Rattle.emp_poly.specs.declared.quad.Quad.{Quad}
use Rattle.emp_poly.specs.declared.quad.Lin.{Lin}
use Rattle.emp_owner.proofs.Lists.{get_is}
use Rattle.emp_problem.specs.Left.{function_form, equation_form}
use Rattle.emp_problem.specs.ProblemOf.{AreFlowsFor}
use Rattle.emp_agents.specs.Given.{difference}
use Rattle.emp_subst.specs.Stages.{AreDifferences}

flows_push : (m : Model) (gs : List (Option ℕ)) (ls : List Lin) (g : Option ℕ) (l : Lin) → AreFlowsFor m gs ls → LinHasForm l (function_form m g) → AreFlowsFor m (gs ++ g ∷ []) (ls ++ l ∷ [])
flows_push m [] [] g l h k = (k, tt)
flows_push m [] (x ∷ ls) g l h k = absurd h
flows_push m (y ∷ gs) [] g l h k = absurd h
flows_push m (y ∷ gs) (x ∷ ls) g l h k = (h.0, flows_push m gs ls g l h.1 k)

flows_more : {X : Type 0} (f : X → Option ℕ) (m : Model) (gs : List (Option ℕ)) (ls : List Lin) (xs : List X) (i : ℕ) (x : X) (l : Lin) → i < length xs → x ≡ get_or xs i x → AreFlowsFor m (gs ++ map f (take i xs)) ls → LinHasForm l (function_form m (f x)) → AreFlowsFor m (gs ++ map f (take (i + 1) xs)) (ls ++ l ∷ [])
flows_more f m gs ls xs i x l within is h k =
    subst (λ ys. AreFlowsFor m ys (ls ++ l ∷ []))
    (append_assoc gs (map f (take i xs)) (f x ∷ []) ∙ ap (λ ys. gs ++ ys) (ap (λ y. map f (take i xs) ++ f y ∷ []) is ∙ (sym (map-append f (take i xs) (get_or xs i x ∷ [])) ∙ ap (map f) (sym (take_more xs i x within)))))
    (flows_push m (gs ++ map f (take i xs)) ls (f x) l h k)

flows_done : {X : Type 0} (f : X → Option ℕ) (m : Model) (gs : List (Option ℕ)) (ls : List Lin) (xs : List X) (i : ℕ) → length xs ≤ i → AreFlowsFor m (gs ++ map f (take i xs)) ls → AreFlowsFor m (gs ++ map f xs) ls
flows_done f m gs ls xs i l h = subst (λ ys. AreFlowsFor m (gs ++ map f ys) ls) (take_all i xs l) h

-- what was put so far
abbrev pub ZerosOn : List VarId → List Lin → List Lin → Type 0
ZerosOn zs old new = (m : Model) (gs : List (Option ℕ)) → AreFlowsFor m gs old → AreFlowsFor m (gs ++ map (λ z. None) zs) new

abbrev pub PairsOn : List Quad → List (EquId × VarId) → List Lin → List Lin → Type 0
PairsOn ds qs old new = (m : Model) (gs : List (Option ℕ)) → AreDifferences m ds → AreFlowsFor m gs old → AreFlowsFor m (gs ++ map (λ q. Some q.0.at) qs) new

no_more : {X : Type 0} (xs : List X) → xs ++ [] ≡ xs
no_more [] = refl
no_more (x ∷ xs) = ap (λ ys. x ∷ ys) (no_more xs)

pub zeros_start : (old : List Lin) → ZerosOn [] old old
zeros_start old m gs h = subst (λ ys. AreFlowsFor m ys old) (sym (no_more gs)) h

pub zeros_more : (zs : List VarId) (old new : List Lin) (i : ℕ) (l : Lin) → i < length zs → LinHasForm l (form_of (pos 0) (pos 1)) → ZerosOn (take i zs) old new → ZerosOn (take (i + 1) zs) old (new ++ l ∷ [])
zeros_more zs old new i l within k h m gs start = flows_more (λ z. None) m gs new zs i (get_or zs i (record { at = 0 })) l within (self zs i (record { at = 0 }) within) (h m gs start) k
  where
    self : (xs : List VarId) (i : ℕ) (d : VarId) → i < length xs → get_or xs i d ≡ get_or xs i (get_or xs i d)
    self [] i d l = absurd (omega arith)
    self (x ∷ xs) zero d l = refl
    self (x ∷ xs) (suc i) d l = self xs i d (omega arith)

pub zeros_done : (zs : List VarId) (old new : List Lin) (i : ℕ) → length zs ≤ i → ZerosOn (take i zs) old new → ZerosOn zs old new
zeros_done zs old new i l h m gs start = flows_done (λ z. None) m gs new zs i l (h m gs start)

pub pairs_start : (ds : List Quad) (old : List Lin) → PairsOn ds [] old old
pairs_start ds old m gs are h = subst (λ ys. AreFlowsFor m ys old) (sym (no_more gs)) h

function_is : (m : Model) (ds : List Quad) (e : EquId) (d : Quad) (l : Lin) → AreDifferences m ds → e.at < length ds → d ≡ get_or ds e.at d → ((f : Form) → HasForm d f → LinHasForm l f) → LinHasForm l (function_form m (Some e.at))
function_is m ds e d l are within is k = go (some_at m.equations e.at (let c = are.count in omega arith))
  where
    some_at : {X : Type 0} (xs : List X) (n : ℕ) → n < length xs → (x : X) × (slice_get xs n ≡ Some x)
    some_at [] n l = absurd (omega arith)
    some_at (x ∷ xs) zero l = (x, refl)
    some_at (x ∷ xs) (suc n) l = some_at xs n (omega arith)

    go : (q : Equation) × (slice_get m.equations e.at ≡ Some q) → LinHasForm l (equation_form (slice_get m.equations e.at))
    go q = subst (λ o. LinHasForm l (equation_form o)) (sym q.1) (k (form (difference q.0)) (are.each e.at q.0 d q.1 (get_is ds e.at d within is)))

pub pairs_more : (ds : List Quad) (qs : List (EquId × VarId)) (old new : List Lin) (i : ℕ) (q : EquId × VarId) (d : Quad) (l : Lin) → i < length qs → q ≡ get_or qs i q → q.0.at < length ds → d ≡ get_or ds q.0.at d → ((f : Form) → HasForm d f → LinHasForm l f) → PairsOn ds (take i qs) old new → PairsOn ds (take (i + 1) qs) old (new ++ l ∷ [])
pairs_more ds qs old new i q d l within is inside is_d k h m gs are start = flows_more (λ q. Some q.0.at) m gs new qs i q l within is (h m gs are start) (function_is m ds q.0 d l are inside is_d k)

pub pairs_done : (ds : List Quad) (qs : List (EquId × VarId)) (old new : List Lin) (i : ℕ) → length qs ≤ i → PairsOn ds (take i qs) old new → PairsOn ds qs old new
pairs_done ds qs old new i l h m gs are start = flows_done (λ q. Some q.0.at) m gs new qs i l (h m gs are start)

pub ruleset flowing = (zeros_start, zeros_more, zeros_done, pairs_start, pairs_more, pairs_done)
