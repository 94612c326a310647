-- The first defined objective whose fold is wide is found, or there is none.
use Rattle.std.proofs.Common.{◌≡◌, inl, inr, ℕ, Bool, true, false, List, length, Option, Some, None, refl, sym, ap, subst, ◌∙◌}
use Rattle.std.specs.Prelude.{slice_get}
use Rattle.std.proofs.lemmas.Bool.{false≢true}
use Rattle.std.proofs.lemmas.Option.{same_Some, none-some, slice_get_within}
use Rattle.emp_num.specs.Point.{Point, StandsFor}
use Rattle.emp_num.specs.declared.frac.Frac.{Frac}
use Rattle.emp_ast.specs.declared.model.Model.{Model}
use Rattle.emp_ast.specs.declared.annot.Annot.{Annot}
use Rattle.emp_ast.specs.Parties.{leader, block, is_defined_of}
use Rattle.emp_form.specs.Calls.{Formula, given, HasWideCall}
use Rattle.emp_poly.specs.Written.{linear_from, written_value}
use Rattle.emp_poly.specs.declared.quad.Quad.{Quad}
use Rattle.emp_problem.specs.declared.problem.Purpose.{Purpose}
use Rattle.emp_problem.specs.declared.problem.Purpose.TheVariants.{Goal, Flow}
use Rattle.emp_problem.specs.declared.problem.BlockPart.{BlockPart}
use Rattle.emp_problem.specs.declared.problem.LeaderPart.{LeaderPart}
use Rattle.emp_problem.specs.declared.problem.AgentProblem.{AgentProblem}
use Rattle.emp_subst.specs.Fill.{IsBlockFold, IsLeaderFold, IsFold, spread}
use Rattle.emp_subst.specs.Filling.{IsWideAt}
use Rattle.emp_subst.proofs.Turning.{wide_goal}
use Rattle.emp_layers.proofs.Deciding.{Decided, First, first_of, Listed, line_known, written_known, stood_by}

module _ (m : Model) (a : Annot) (pr : AgentProblem) (xs : List Frac) (v : ℕ) where
  -- ---- one block
  pub record BlockWide (k : ℕ) : Type 0 where
    pub formula : Formula
    pub fold : IsBlockFold m a pr xs v formula
    pub number : fold.number ≡ k
    pub wide : HasWideCall formula

  there : (k : ℕ) (h : BlockWide k) → slice_get pr.blocks k ≡ Some h.fold.part
  there k h = ap (λ i. slice_get pr.blocks i) (sym h.number) ∙ h.fold.is

  with_goal : (k : ℕ) (b : BlockPart) (q : Quad) → is_defined_of m a (block k) v ≡ true → slice_get pr.blocks k ≡ Some b → b.purpose ≡ Goal q → Decided (BlockWide k)
  with_goal k b q defines at goal = go (written_known q xs).wide
    where
      go : Decided (HasWideCall (written_value q xs)) → Decided (BlockWide k)
      go (inl w) = inl (record { formula = written_value q xs; fold = record { number = k; defines = defines; part = b; is = at; goal = q; purpose = goal; fold = refl }; number = refl; wide = w })
      go (inr never) = inr (λ h.
          let same : h.fold.part ≡ b = same_Some h.fold.part b (sym (there k h) ∙ at) in
          never (wide_goal b.purpose q h.fold.goal xs goal (sym (ap (λ (c : BlockPart). c.purpose) same) ∙ h.fold.purpose) (subst HasWideCall h.fold.fold h.wide)))

  with_part : (k : ℕ) (b : BlockPart) → is_defined_of m a (block k) v ≡ true → slice_get pr.blocks k ≡ Some b → Decided (BlockWide k)
  with_part k b defines at = go b.purpose refl
    where
      go : (p : Purpose) → b.purpose ≡ p → Decided (BlockWide k)
      go (Goal q) e = with_goal k b q defines at e
      go (Flow fs) e = inr (λ h.
          let same : h.fold.part ≡ b = same_Some h.fold.part b (sym (there k h) ∙ at) in
          let none : Goal h.fold.goal ≡ Flow fs = sym (sym (ap (λ (c : BlockPart). c.purpose) same) ∙ h.fold.purpose) ∙ e in
          absurd (cc))

  block_known : (k : ℕ) → Decided (BlockWide k)
  block_known k = go (is_defined_of m a (block k) v) refl (slice_get pr.blocks k) refl
    where
      go : (b : Bool) → is_defined_of m a (block k) v ≡ b → (o : Option BlockPart) → slice_get pr.blocks k ≡ o → Decided (BlockWide k)
      go false d o at = inr (λ h. false≢true (sym d ∙ (ap (λ i. is_defined_of m a (block i) v) (sym h.number) ∙ h.fold.defines)))
      go true d None at = inr (λ h. none-some h.fold.part (sym at ∙ there k h))
      go true d (Some b) at = with_part k b d at

  -- ---- the leader
  pub record LeaderWide : Type 0 where
    pub formula : Formula
    pub fold : IsLeaderFold m a pr xs v formula
    pub wide : HasWideCall formula

  abbrev line_of : LeaderPart → Formula
  line_of l = linear_from (given l.goal.constant) l.goal.linear xs

  leader_known : Decided LeaderWide
  leader_known = go (is_defined_of m a leader v) refl pr.leader refl
    where
      with_line : (l : LeaderPart) → is_defined_of m a leader v ≡ true → pr.leader ≡ Some l → Decided (HasWideCall (line_of l)) → Decided LeaderWide
      with_line l d at (inl w) = inl (record { formula = line_of l; fold = record { defines = d; part = l; is = at; fold = refl }; wide = w })
      with_line l d at (inr never) = inr (λ h. let same : h.fold.part ≡ l = same_Some h.fold.part l (sym h.fold.is ∙ at) in never (subst HasWideCall (h.fold.fold ∙ ap line_of same) h.wide))

      go : (b : Bool) → is_defined_of m a leader v ≡ b → (o : Option LeaderPart) → pr.leader ≡ o → Decided LeaderWide
      go false d o at = inr (λ h. false≢true (sym d ∙ h.fold.defines))
      go true d None at = inr (λ h. none-some h.fold.part (sym at ∙ h.fold.is))
      go true d (Some l) at = with_line l d at (line_known l.goal.constant l.goal.linear xs).wide

  -- ---- the variable
  pub wide_known : Decided (IsWideAt m a pr xs v)
  wide_known = go (first_of BlockWide block_known (length pr.blocks)) leader_known
    where
      go : First BlockWide (length pr.blocks) → Decided LeaderWide → Decided (IsWideAt m a pr xs v)
      go (inl t) l = let h = t.1.here in inl (record { formula = h.formula; fold = inl h.fold; wide = h.wide })
      go (inr none) (inl h) = inl (record { formula = h.formula; fold = inr h.fold; wide = h.wide })
      go (inr none) (inr never) = inr (λ h. by_fold h h.fold)
        where
          by_fold : (h : IsWideAt m a pr xs v) → IsFold m a pr xs v h.formula → ⊥
          by_fold h (inl f) = none f.number (slice_get_within pr.blocks f.number f.part f.is) (record { formula = h.formula; fold = f; number = refl; wide = h.wide })
          by_fold h (inr f) = never (record { formula = h.formula; fold = f; wide = h.wide })

-- ---- the first variable
abbrev pub FirstWide : Model → Annot → AgentProblem → List Frac → Type 0
FirstWide m a pr xs = First (λ v. IsWideAt m a pr xs v) (length m.variables)

pub first_wide : (m : Model) (a : Annot) (pr : AgentProblem) (xs : List Frac) → FirstWide m a pr xs
first_wide m a pr xs = first_of (λ v. IsWideAt m a pr xs v) (wide_known m a pr xs) (length m.variables)

abbrev pub number_of : {P : ℕ → Type 0} {n : ℕ} → First P n → Option ℕ
number_of (inl t) = Some t.0
number_of (inr none) = None

abbrev pub wide_by : (m : Model) (a : Annot) (pr : AgentProblem) (p : Point) → Listed (λ fs. StandsFor fs p) → Option ℕ
wide_by m a pr p (inl t) = number_of (first_wide m a pr (spread m a t.0))
wide_by m a pr p (inr never) = None

-- where a list of fractions stands for the point, the first defined objective whose fold at these values is wide
abbrev pub wide_at : Model → Annot → AgentProblem → Point → Option ℕ
wide_at m a pr p = wide_by m a pr p (stood_by p)
