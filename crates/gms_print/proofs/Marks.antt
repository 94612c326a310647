-- Writing in front of what stands in a text.
use Rattle.std.proofs.Common.{◌≡◌, ℕ, ◌+◌, ◌-◌, ◌<◌, ◌≤◌, Bool, true, false, List, [], ◌∷◌, ◌++◌, length, take, drop, get_or, insert, codes, arith, refl, sym, ap, ◌∙◌, append_assoc, length-append}
use Rattle.std.proofs.lemmas.List.{take-append-drop, take_more, length-take-le}
use Rattle.std.proofs.Math.Seq.{take-append_seam, drop-append_seam}
use Rattle.gms_print.specs.declared.mark.Mark.{Mark}
use Rattle.gms_print.specs.Canonical.{wrapped}
use Rattle.gms_print.specs.Marks.{TakesMark, Encloses}

-- ---- the last mark
pub last_taken : (xs ys : List Mark) (x y : Mark) → xs ++ x ∷ [] ≡ ys ++ y ∷ [] → (x ≡ y) × (xs ≡ ys)
last_taken [] [] x y e = (cc, refl)
last_taken [] (b ∷ []) x y e = absurd (let f = ap length e in omega arith)
last_taken [] (b ∷ (c ∷ ys)) x y e = absurd (let f = ap length e in omega arith)
last_taken (a ∷ []) [] x y e = absurd (let f = ap length e in omega arith)
last_taken (a ∷ (c ∷ xs)) [] x y e = absurd (let f = ap length e in omega arith)
last_taken (a ∷ xs) (b ∷ ys) x y e =
    let h : xs ++ x ∷ [] ≡ ys ++ y ∷ [] = cc in
    let head : a ≡ b = cc in
    let r = last_taken xs ys x y h in
    (r.0, cc)

pub takes_mark : (old new : List Mark) (m : Mark) → old ≡ new ++ m ∷ [] → TakesMark old new m
takes_mark old new m e = λ ms n f. let r = last_taken new ms m n (sym e ∙ f) in r

pub takes_none : (old new : List Mark) (m : Mark) → old ≡ [] → TakesMark old new m
takes_none old new m e = λ ms n f. absurd (let g : length (ms ++ n ∷ []) ≡ 0 = ap length (sym f ∙ e) in omega (arith, length-append ms (n ∷ [])))

pub ruleset taking = (takes_mark, takes_none)

-- ---- a text put in
pub insert_seam : (a d : List ℕ) (x n : ℕ) → n ≡ length a → insert (a ++ d) n x ≡ a ++ x ∷ d
insert_seam a d x n e = rw (e, take-append_seam a d, drop-append_seam a d) refl

pub insert_more : (old text : List ℕ) (at i : ℕ) → at ≤ length old → i < length text → insert (take at old ++ take i text ++ drop at old) (at + i) (get_or text i 0) ≡ take at old ++ take (i + 1) text ++ drop at old
insert_more old text at i h k =
    let a = take at old ++ take i text in
    let n : at + i ≡ length a = omega (arith, length-append (take at old) (take i text), length-take-le at old h, length-take-le i text (omega arith)) in
    insert_seam a (drop at old) (get_or text i 0) (at + i) n
    ∙ (sym (append_assoc a (get_or text i 0 ∷ []) (drop at old)) ∙ ap (λ t. t ++ drop at old) (append_assoc (take at old) (take i text) (get_or text i 0 ∷ []) ∙ ap (λ t. take at old ++ t) (sym (take_more text i 0 k))))

pub ruleset inserting = (insert_more, append_assoc)

-- ---- parentheses
pub seam_inserted : (b x w : List ℕ) → take (length b) (b ++ w) ++ x ++ drop (length b) (b ++ w) ≡ b ++ (x ++ w)
seam_inserted b x w = rw (take-append_seam b w, drop-append_seam b w) (append_assoc b x w)

pub wraps_none : (from : ℕ) (f : Bool) (old : List ℕ) → f ≡ false → old ≡ take from old ++ wrapped f (drop from old)
wraps_none from true old e = cc
wraps_none from false old e = sym (take-append-drop from old)

pub wraps_some : (from : ℕ) (f : Bool) (old : List ℕ) → f ≡ true → (take from old ++ codes "(" ++ drop from old) ++ codes ")" ≡ take from old ++ wrapped f (drop from old)
wraps_some from false old e = cc
wraps_some from true old e = ap (λ t. t ++ codes ")") (append_assoc (take from old) (codes "(") (drop from old)) ∙ append_assoc (take from old) (codes "(" ++ drop from old) (codes ")")

pub ruleset wrapping = (wraps_none, wraps_some)

pub encloses_none : (from to : ℕ) (f : Bool) (old : List ℕ) → f ≡ false → Encloses from to f old old
encloses_none from to true old e = cc
encloses_none from to false old e = λ b v w h k o. o ∙ append_assoc b v w

encloses : (b v w : List ℕ) (from to : ℕ) (old one new : List ℕ) → from ≡ length b → to ≡ length (b ++ v) → old ≡ b ++ v ++ w → one ≡ take to old ++ codes ")" ++ drop to old → new ≡ take from one ++ codes "(" ++ drop from one → new ≡ b ++ ((codes "(" ++ v ++ codes ")") ++ w)
encloses b v w from to old one new h k o e f =
    let first : one ≡ b ++ (v ++ (codes ")" ++ w)) = e ∙ (rw (k, o) (seam_inserted (b ++ v) (codes ")") w ∙ append_assoc b v (codes ")" ++ w))) in
    let second : new ≡ b ++ (codes "(" ++ (v ++ (codes ")" ++ w))) = f ∙ (rw (h, first) (seam_inserted b (codes "(") (v ++ (codes ")" ++ w)))) in
    second ∙ ap (λ t. b ++ t) (simp append_assoc)

pub encloses_some : (from to : ℕ) (f : Bool) (old one new : List ℕ) → f ≡ true → one ≡ take to old ++ codes ")" ++ drop to old → new ≡ take from one ++ codes "(" ++ drop from one → Encloses from to f old new
encloses_some from to false old one new e h k = cc
encloses_some from to true old one new e h k = λ b v w p q o. encloses b v w from to old one new p q o h k

pub ruleset enclosing = (encloses_none, encloses_some)
