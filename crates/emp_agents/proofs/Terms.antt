-- How a variable stands in the polynomial of an expression.
use Rattle.std.proofs.Common.{◌≡◌, ◌⊎◌, inl, inr, ℕ, zero, suc, ◌≤◌, ℤ, pos, negsuc, neg_ℤ, ◌+ℤ◌, ◌*ℤ◌, Bool, true, false, cond, ◌||◌, nat_eq, [], ◌∷◌, arith, refl, sym, ap, ap₂, subst, ◌∙◌}
use Rattle.std.proofs.lemmas.Bool.{eqb-true, eq-eqb, false≢true}
use lib.IntN.{zero-*ℤ, *ℤ-zero}
use Rattle.emp_algebra.proofs.Ring.{var, lit, neg, ◌⊕◌, ◌⊗◌, by_ring}
use Rattle.emp_ast.specs.declared.tree.Operator.{Operator}
use Rattle.emp_ast.specs.declared.tree.Operator.TheVariants.{Plus, Minus, Times, Over}
use Rattle.emp_ast.specs.Expression.{Expression, number, variable, negated, joined, power}
use Rattle.emp_ast.specs.Occurrence.{leaves, is_additive, is_summand}
use Rattle.emp_ast.proofs.Given.{summand_leaf}
use Rattle.emp_form.specs.Form.{Form, form_of, variable_form, scaled, negated_form, sum_form, crossed, product_form, divided, power_form}
use Rattle.emp_form.specs.Expansion.{joined_form, form}
use Rattle.emp_agents.specs.Given.{joined_sign, leaf_sign, IsSign, HasTerm}

pub turned : (i j : ℕ) → nat_eq i j ≡ nat_eq j i
turned i j = go (nat_eq i j) refl (nat_eq j i) refl
  where
    go : (b : Bool) → nat_eq i j ≡ b → (c : Bool) → nat_eq j i ≡ c → nat_eq i j ≡ nat_eq j i
    go true q true r = q ∙ sym r
    go false q false r = q ∙ sym r
    go true q false r = absurd (false≢true (sym r ∙ eq-eqb j i (sym (eqb-true i j q))))
    go false q true r = absurd (false≢true (sym q ∙ eq-eqb i j (sym (eqb-true j i r))))

module _ (w : ℕ) where
  -- ---- operations
  term_number : (n d : ℤ) → HasTerm w (pos 0) (form_of n d)
  term_number n d = record { linear = sym (zero-*ℤ d); first = λ j. refl; second = λ i. refl }

  term_variable : (v : ℕ) → HasTerm w (cond (nat_eq v w) (pos 1) (pos 0)) (variable_form v)
  term_variable v = record {
    linear = ap (λ (b : Bool). cond b (pos 1) (pos 0)) (turned w v) ∙ by_ring (cond (nat_eq v w) (pos 1) (pos 0) ∷ []) (var 0) (var 0 ⊗ lit (pos 1)) refl;
    first = λ j. refl;
    second = λ i. refl;
  }

  term_negated : (s : ℤ) (f : Form) → HasTerm w s f → HasTerm w (neg_ℤ s) (negated_form f)
  term_negated s f h = record {
    linear = ap neg_ℤ h.linear ∙ by_ring (s ∷ f.den ∷ []) (neg (var 0 ⊗ var 1)) (neg (var 0) ⊗ var 1) refl;
    first = λ j. ap neg_ℤ (h.first j);
    second = λ i. ap neg_ℤ (h.second i);
  }

  none_of : (u v : ℤ) → u *ℤ pos 0 +ℤ v *ℤ pos 0 ≡ pos 0
  none_of u v = by_ring (u ∷ v ∷ []) (var 0 ⊗ lit (pos 0) ⊕ var 1 ⊗ lit (pos 0)) (lit (pos 0)) refl

  term_sum : (s t : ℤ) (f g : Form) → HasTerm w s f → HasTerm w t g → HasTerm w (s +ℤ t) (sum_form f g)
  term_sum s t f g h k = record {
    linear = ap₂ (λ x y. g.den *ℤ x +ℤ f.den *ℤ y) h.linear k.linear ∙ by_ring (s ∷ t ∷ f.den ∷ g.den ∷ []) (var 3 ⊗ (var 0 ⊗ var 2) ⊕ var 2 ⊗ (var 1 ⊗ var 3)) ((var 0 ⊕ var 1) ⊗ (var 2 ⊗ var 3)) refl;
    first = λ j. ap₂ (λ x y. g.den *ℤ x +ℤ f.den *ℤ y) (h.first j) (k.first j) ∙ none_of g.den f.den;
    second = λ i. ap₂ (λ x y. g.den *ℤ x +ℤ f.den *ℤ y) (h.second i) (k.second i) ∙ none_of g.den f.den;
  }

  pub no_linear : (f : Form) → HasTerm w (pos 0) f → f.linear w ≡ pos 0
  no_linear f h = h.linear ∙ zero-*ℤ f.den

  crossed_first : (a b : ℕ → ℤ) → a w ≡ pos 0 → b w ≡ pos 0 → (j : ℕ) → crossed a b w j ≡ pos 0
  crossed_first a b h k j = ap₂ (λ x y. cond (nat_eq w j) (x *ℤ y) (x *ℤ b j +ℤ a j *ℤ y)) h k ∙ go (nat_eq w j)
    where
      go : (t : Bool) → cond t (pos 0 *ℤ pos 0) (pos 0 *ℤ b j +ℤ a j *ℤ pos 0) ≡ pos 0
      go true = refl
      go false = by_ring (b j ∷ a j ∷ []) (lit (pos 0) ⊗ var 0 ⊕ var 1 ⊗ lit (pos 0)) (lit (pos 0)) refl

  crossed_second : (a b : ℕ → ℤ) → a w ≡ pos 0 → b w ≡ pos 0 → (i : ℕ) → crossed a b i w ≡ pos 0
  crossed_second a b h k i = go (nat_eq i w) refl
    where
      go : (t : Bool) → nat_eq i w ≡ t → cond t (a i *ℤ b i) (a i *ℤ b w +ℤ a w *ℤ b i) ≡ pos 0
      go true q = ap₂ (λ x y. x *ℤ y) (ap a (eqb-true i w q) ∙ h) (ap b (eqb-true i w q) ∙ k)
      go false q = ap₂ (λ x y. a i *ℤ x +ℤ y *ℤ b i) k h ∙ by_ring (a i ∷ b i ∷ []) (var 0 ⊗ lit (pos 0) ⊕ lit (pos 0) ⊗ var 1) (lit (pos 0)) refl

  term_product : (f g : Form) → HasTerm w (pos 0) f → HasTerm w (pos 0) g → HasTerm w (pos 0) (product_form f g)
  term_product f g h k = record {
    linear = ap₂ (λ x y. f.constant *ℤ x +ℤ g.constant *ℤ y) (no_linear g k) (no_linear f h) ∙ (none_of f.constant g.constant ∙ sym (zero-*ℤ (f.den *ℤ g.den)));
    first = λ j. ap₂ (λ x y. x +ℤ y) (crossed_first f.linear g.linear (no_linear f h) (no_linear g k) j) (ap₂ (λ x y. f.constant *ℤ x +ℤ g.constant *ℤ y) (k.first j) (h.first j) ∙ none_of f.constant g.constant);
    second = λ i. ap₂ (λ x y. x +ℤ y) (crossed_second f.linear g.linear (no_linear f h) (no_linear g k) i) (ap₂ (λ x y. f.constant *ℤ x +ℤ g.constant *ℤ y) (k.second i) (h.second i) ∙ none_of f.constant g.constant);
  }

  term_scaled : (k : ℤ) (f : Form) (m : ℤ) → HasTerm w (pos 0) f → HasTerm w (pos 0) (scaled k f m)
  term_scaled k f m h = record {
    linear = ap (λ x. k *ℤ x) (no_linear f h) ∙ (*ℤ-zero k ∙ sym (zero-*ℤ (f.den *ℤ m)));
    first = λ j. ap (λ x. k *ℤ x) (h.first j) ∙ *ℤ-zero k;
    second = λ i. ap (λ x. k *ℤ x) (h.second i) ∙ *ℤ-zero k;
  }

  term_divided : (f : Form) (n d : ℤ) → HasTerm w (pos 0) f → HasTerm w (pos 0) (divided f n d)
  term_divided f (pos zero) d h = h
  term_divided f (pos (suc n)) d h = term_scaled d f (pos (suc n)) h
  term_divided f (negsuc n) d h = term_scaled (neg_ℤ d) f (pos (suc n)) h

  term_power : (f : Form) (n : ℕ) → HasTerm w (pos 0) f → HasTerm w (pos 0) (power_form f n)
  term_power f zero h = term_number (pos 1) (pos 1)
  term_power f (suc n) h = term_product f (power_form f n) h (term_power f n h)

  -- ---- an expression without the variable
  absent_joined : (op : Operator) (f g : Form) → HasTerm w (pos 0) f → HasTerm w (pos 0) g → HasTerm w (pos 0) (joined_form op f g)
  absent_joined Plus f g h k = term_sum (pos 0) (pos 0) f g h k
  absent_joined Minus f g h k = term_sum (pos 0) (pos 0) f (negated_form g) h (term_negated (pos 0) g k)
  absent_joined Times f g h k = term_product f g h k
  absent_joined Over f g h k = term_divided f g.constant g.den h

  other : (v : ℕ) → cond (nat_eq v w) 1 0 ≤ 0 → nat_eq v w ≡ false
  other v h = go (nat_eq v w) refl
    where
      go : (b : Bool) → nat_eq v w ≡ b → b ≡ false
      go true q = absurd (let l : 1 ≤ 0 = subst (λ (b : Bool). cond b 1 0 ≤ 0) q h in omega arith)
      go false q = refl

  pub absent : (e : Expression) → leaves w e ≤ 0 → HasTerm w (pos 0) (form e)
  absent (number f) h = term_number f.num f.den
  absent (variable v) h = subst (λ (b : Bool). HasTerm w (cond b (pos 1) (pos 0)) (variable_form v)) (other v h) (term_variable v)
  absent (negated e) h = term_negated (pos 0) (form e) (absent e h)
  absent (joined op e f) h = absent_joined op (form e) (form f) (absent e (omega arith)) (absent f (omega arith))
  absent (power e n) h = term_power (form e) n (absent e h)

  no_joined_sign : (op : Operator) (s t : ℤ) → s ≡ pos 0 → t ≡ pos 0 → joined_sign op s t ≡ pos 0
  no_joined_sign Plus s t h k = ap₂ (λ x y. x +ℤ y) h k
  no_joined_sign Minus s t h k = ap₂ (λ x y. x +ℤ neg_ℤ y) h k
  no_joined_sign Times s t h k = refl
  no_joined_sign Over s t h k = refl

  no_sign : (e : Expression) → leaves w e ≤ 0 → leaf_sign w e ≡ pos 0
  no_sign (number f) h = refl
  no_sign (variable v) h = ap (λ (b : Bool). cond b (pos 1) (pos 0)) (other v h)
  no_sign (negated e) h = ap neg_ℤ (no_sign e h)
  no_sign (joined op e f) h = no_joined_sign op (leaf_sign w e) (leaf_sign w f) (no_sign e (omega arith)) (no_sign f (omega arith))
  no_sign (power e n) h = refl

  -- ---- an expression with the variable as one summand
  pub record Stands (e : Expression) : Type 0 where
    pub sign : IsSign (leaf_sign w e)
    pub term : HasTerm w (leaf_sign w e) (form e)

  stands_joined : (op : Operator) → is_additive op ≡ true → (s t : ℤ) (f g : Form) → HasTerm w s f → HasTerm w t g → HasTerm w (joined_sign op s t) (joined_form op f g)
  stands_joined Plus add s t f g h k = term_sum s t f g h k
  stands_joined Minus add s t f g h k = term_sum s (neg_ℤ t) f (negated_form g) h (term_negated t g k)
  stands_joined Times add s t f g h k = cc
  stands_joined Over add s t f g h k = cc

  sign_first : (op : Operator) → is_additive op ≡ true → (s t : ℤ) → IsSign s → t ≡ pos 0 → IsSign (joined_sign op s t)
  sign_first Plus add s t (inl e) z = inl (ap₂ (λ x y. x +ℤ y) e z)
  sign_first Plus add s t (inr e) z = inr (ap₂ (λ x y. x +ℤ y) e z)
  sign_first Minus add s t (inl e) z = inl (ap₂ (λ x y. x +ℤ neg_ℤ y) e z)
  sign_first Minus add s t (inr e) z = inr (ap₂ (λ x y. x +ℤ neg_ℤ y) e z)
  sign_first Times add s t h z = cc
  sign_first Over add s t h z = cc

  sign_second : (op : Operator) → is_additive op ≡ true → (s t : ℤ) → s ≡ pos 0 → IsSign t → IsSign (joined_sign op s t)
  sign_second Plus add s t z (inl e) = inl (ap₂ (λ x y. x +ℤ y) z e)
  sign_second Plus add s t z (inr e) = inr (ap₂ (λ x y. x +ℤ y) z e)
  sign_second Minus add s t z (inl e) = inr (ap₂ (λ x y. x +ℤ neg_ℤ y) z e)
  sign_second Minus add s t z (inr e) = inl (ap₂ (λ x y. x +ℤ neg_ℤ y) z e)
  sign_second Times add s t z h = cc
  sign_second Over add s t z h = cc

  opposite_sign : (s : ℤ) → IsSign s → IsSign (neg_ℤ s)
  opposite_sign s (inl e) = inr (ap neg_ℤ e)
  opposite_sign s (inr e) = inl (ap neg_ℤ e)

  or_cases : (a b : Bool) → (a || b) ≡ true → (a ≡ true) ⊎ (b ≡ true)
  or_cases true b h = inl refl
  or_cases false b h = inr h

  joined_summand : (op : Operator) (b : Bool) → cond (is_additive op) b false ≡ true → (is_additive op ≡ true) × (b ≡ true)
  joined_summand Plus b h = (refl, h)
  joined_summand Minus b h = (refl, h)
  joined_summand Times b h = cc
  joined_summand Over b h = cc

  pub stands : (e : Expression) → leaves w e ≤ 1 → is_summand w e ≡ true → Stands e
  stands (number f) once is = cc
  stands (variable v) once is = record { sign = inl (ap (λ (b : Bool). cond b (pos 1) (pos 0)) is); term = term_variable v }
  stands (negated e) once is =
      let h = stands e once is in
      record { sign = opposite_sign (leaf_sign w e) h.sign; term = term_negated (leaf_sign w e) (form e) h.term }
  stands (joined op e f) once is =
      let parts = joined_summand op (is_summand w e || is_summand w f) is in
      go parts.0 (or_cases (is_summand w e) (is_summand w f) parts.1) (stands e) (stands f)
    where
      go : is_additive op ≡ true → (is_summand w e ≡ true) ⊎ (is_summand w f ≡ true) → (leaves w e ≤ 1 → is_summand w e ≡ true → Stands e) → (leaves w f ≤ 1 → is_summand w f ≡ true → Stands f) → Stands (joined op e f)
      go add (inl s) one two =
          let l = summand_leaf w e s in
          let h = one (omega arith) s in
          let none : leaves w f ≤ 0 = omega arith in
          let z = no_sign f none in
          let absent_there : HasTerm w (leaf_sign w f) (form f) = subst (λ t. HasTerm w t (form f)) (sym z) (absent f none) in
          record { sign = sign_first op add (leaf_sign w e) (leaf_sign w f) h.sign z; term = stands_joined op add (leaf_sign w e) (leaf_sign w f) (form e) (form f) h.term absent_there }
      go add (inr s) one two =
          let l = summand_leaf w f s in
          let h = two (omega arith) s in
          let none : leaves w e ≤ 0 = omega arith in
          let z = no_sign e none in
          let absent_there : HasTerm w (leaf_sign w e) (form e) = subst (λ t. HasTerm w t (form e)) (sym z) (absent e none) in
          record { sign = sign_second op add (leaf_sign w e) (leaf_sign w f) z h.sign; term = stands_joined op add (leaf_sign w e) (leaf_sign w f) (form e) (form f) absent_there h.term }
  stands (power e n) once is = cc
