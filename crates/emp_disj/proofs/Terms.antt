-- Terms, their slacks and their weights.
use Rattle.std.proofs.Common.{◌≡◌, ◌⊎◌, inl, inr, suc, ℤ, pos, negsuc, ◌+ℤ◌, ◌*ℤ◌, ◌≤ℤ◌, ◌<ℤ◌, List, [], ◌∷◌, length, arith, refl, sym, ap, subst, ◌∙◌}
use Rattle.std.proofs.lemmas.Int.{ints}
use lib.IntN.{*ℤ-zero}
use Rattle.emp_algebra.proofs.Ring.{var, lit, ◌⊕◌, ◌⊗◌, by_ring}
use Rattle.emp_algebra.proofs.Laws.{mul_pos}
use Rattle.emp_algebra.proofs.Order.{linear, mul_le_right}
use Rattle.emp_algebra.specs.Vector.{scale}
use Rattle.emp_ast.specs.declared.model.Relation.{Relation}
use Rattle.emp_ast.specs.declared.model.Relation.TheVariants.{Equal, AtLeast, AtMost, Nothing}
use Rattle.emp_game.specs.Solved.{IsObeyed}
use Rattle.emp_disj.specs.Terms.{Gap, IsMet, OneIsMet, MakesUp, IsEased, AreEased, total, Eases, TermsAreMet, TermsHaveSlacks}

-- ---- one is met
no_slack : (r : Relation) (z s : ℤ) → s ≡ pos 0 → MakesUp r z s → IsObeyed r z
no_slack Equal z s e h = let a = h.0 in let b = h.1 in omega (arith, ints)
no_slack AtLeast z s e h = omega (arith, ints)
no_slack AtMost z s e h = omega (arith, ints)
no_slack Nothing z s e h = tt

above_or_none : (w : ℤ) → pos 0 ≤ℤ w → (w ≡ pos 0) ⊎ (pos 0 <ℤ w)
above_or_none w h = grind (arith, ints)

total_times : (n : ℤ) (ws : List ℤ) → total (scale n ws) ≡ n *ℤ total ws
total_times n [] = sym (*ℤ-zero n)
total_times n (w ∷ ws) = ap (λ z. n *ℤ w +ℤ z) (total_times n ws) ∙ by_ring (n ∷ w ∷ total ws ∷ []) (var 0 ⊗ var 1 ⊕ var 0 ⊗ var 2) (var 0 ⊗ (var 1 ⊕ var 2)) refl

met : (gs : List Gap) (ss ws : List ℤ) → AreEased gs ss ws → pos 0 <ℤ total ws → OneIsMet gs
met [] [] [] h t = absurd (omega (arith, ints, t))
met [] [] (w ∷ ws) h t = absurd h
met [] (s ∷ ss) ws h t = absurd h
met (g ∷ gs) [] ws h t = absurd h
met (g ∷ gs) (s ∷ ss) [] h t = absurd h
met (g ∷ gs) (s ∷ ss) (w ∷ ws) h t = go h.0.3 (λ e. met gs ss ws h.1 (omega (arith, ints, t, e)))
  where
    go : (w ≡ pos 0) ⊎ (s ≡ pos 0) → (w ≡ pos 0 → OneIsMet gs) → IsMet g ⊎ OneIsMet gs
    go (inl e) rest = inr (rest e)
    go (inr e) rest = inl (no_slack g.0 g.1 s e h.0.0)

pub terms_are_met : TermsAreMet
terms_are_met n d gs ss ws above positive h = met gs (scale n ss) (scale n ws) h.eased (subst (λ z. pos 0 <ℤ z) (sym (total_times n ws ∙ ap (λ z. n *ℤ z) h.whole)) (mul_pos n d above positive))

-- ---- slacks and weights
abbrev pub size : ℤ → ℤ
size (pos k) = pos k
size (negsuc k) = pos (suc k)

size_nonneg : (z : ℤ) → pos 0 ≤ℤ size z
size_nonneg (pos k) = omega (arith, ints)
size_nonneg (negsuc k) = omega (arith, ints)

size_over : (z : ℤ) → z ≤ℤ size z
size_over (pos k) = omega (arith, ints)
size_over (negsuc k) = omega (arith, ints)

size_under : (z : ℤ) → pos 0 ≤ℤ (z +ℤ size z)
size_under (pos k) = omega (arith, ints)
size_under (negsuc k) = omega (arith, ints)

-- times a number above 0 a size does not fall
grows : (n s : ℤ) → pos 0 <ℤ n → pos 0 ≤ℤ s → s ≤ℤ (n *ℤ s)
grows n s p h =
    let one = mul_le_right (pos 1) n s (omega (arith, linear, p)) h in
    let e : pos 1 *ℤ s ≡ s = by_ring (s ∷ []) (lit (pos 1) ⊗ var 0) (var 0) refl in
    omega (arith, linear, one, e)

makes_up : (r : Relation) (z s : ℤ) → size z ≤ℤ s → MakesUp r z s
makes_up r z s h = let over = size_over z in let under = size_under z in by_relation r over under
  where
    by_relation : (r : Relation) → z ≤ℤ size z → pos 0 ≤ℤ (z +ℤ size z) → MakesUp r z s
    by_relation Equal o u = (omega (arith, linear, o, u, h), omega (arith, linear, o, u, h))
    by_relation AtLeast o u = omega (arith, linear, o, u, h)
    by_relation AtMost o u = omega (arith, linear, o, u, h)
    by_relation Nothing o u = tt

met_makes_up : (r : Relation) (z s : ℤ) → s ≡ pos 0 → IsObeyed r z → MakesUp r z s
met_makes_up Equal z s e h = (omega (arith, linear, h, e), omega (arith, linear, h, e))
met_makes_up AtLeast z s e h = omega (arith, linear, h, e)
met_makes_up AtMost z s e h = omega (arith, linear, h, e)
met_makes_up Nothing z s e h = tt

module _ (n d : ℤ) (above : pos 0 <ℤ n) (positive : pos 0 <ℤ d) where
  -- no weight on these
  abbrev rest_slacks : List Gap → List ℤ
  rest_slacks [] = []
  rest_slacks (g ∷ gs) = size g.1 ∷ rest_slacks gs

  abbrev rest_weights : List Gap → List ℤ
  rest_weights [] = []
  rest_weights (g ∷ gs) = pos 0 ∷ rest_weights gs

  nothing : n *ℤ pos 0 ≡ pos 0
  nothing = *ℤ-zero n

  left_out : (g : Gap) → IsEased g (n *ℤ size g.1) (n *ℤ pos 0)
  left_out g =
      let big = grows n (size g.1) above (size_nonneg g.1) in
      let none = nothing in
      let size_is = size_nonneg g.1 in
      (makes_up g.0 g.1 (n *ℤ size g.1) big, omega (arith, linear, none), omega (arith, linear, big, size_is), inl none)

  rest_eased : (gs : List Gap) → AreEased gs (scale n (rest_slacks gs)) (scale n (rest_weights gs))
  rest_eased [] = tt
  rest_eased (g ∷ gs) = (left_out g, rest_eased gs)

  rest_total : (gs : List Gap) → total (rest_weights gs) ≡ pos 0
  rest_total [] = refl
  rest_total (g ∷ gs) = let t = rest_total gs in omega (arith, linear, t)

  rest_count : (gs : List Gap) → length (rest_slacks gs) ≡ length gs
  rest_count [] = refl
  rest_count (g ∷ gs) = ap suc (rest_count gs)

  weight_count : (gs : List Gap) → length (rest_weights gs) ≡ length gs
  weight_count [] = refl
  weight_count (g ∷ gs) = ap suc (weight_count gs)

  found : (gs : List Gap) → OneIsMet gs → (ss : List ℤ) × (ws : List ℤ) × Eases n d gs ss ws
  found [] h = absurd h
  found (g ∷ gs) (inl h) =
      let none = nothing in
      let w = mul_pos n d above positive in
      let t = rest_total gs in (
        pos 0 ∷ rest_slacks gs,
        d ∷ rest_weights gs,
        record {
          slacks = ap suc (rest_count gs);
          weights = ap suc (weight_count gs);
          eased = ((met_makes_up g.0 g.1 (n *ℤ pos 0) none h, omega (arith, linear, w), omega (arith, linear, none), inr none), rest_eased gs);
          whole = omega (arith, linear, t);
        },
      )
  found (g ∷ gs) (inr h) = more (found gs h)
    where
      more : (ss : List ℤ) × (ws : List ℤ) × Eases n d gs ss ws → (ss : List ℤ) × (ws : List ℤ) × Eases n d (g ∷ gs) ss ws
      more (ss, ws, e) =
          let t = e.whole in (
            size g.1 ∷ ss,
            pos 0 ∷ ws,
            record { slacks = ap suc e.slacks; weights = ap suc e.weights; eased = (left_out g, e.eased); whole = omega (arith, linear, t) },
          )

pub terms_have_slacks : TermsHaveSlacks
terms_have_slacks n d gs above positive h = found n d above positive gs h
