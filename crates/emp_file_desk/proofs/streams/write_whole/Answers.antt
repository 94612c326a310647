use Rattle.std.proofs.Common.{ℕ, ◌+◌, ◌-◌, ◌≡◌, List, ◌++◌, length, take, drop, rules, sym, ap, ◌∙◌, subst}
use Rattle.std.proofs.lemmas.List.{take_rest}
use Rattle.std.specs.Io.KnownBytes.{Appends}
use Rattle.std.proofs.KnownBytes.{Appends-trans}
use lib.Seq.{take-add}
use Rattle.emp_file_desk.proofs.streams.write_whole.Goals as goal

goes_on : (at n : ℕ) (bytes : List ℕ) → take at bytes ++ take n (take (length bytes - at) (drop at bytes)) ≡ take (at + n) bytes
goes_on at n bytes = ap (λ l. take at bytes ++ take n l) (take_rest bytes at) ∙ sym (take-add at n bytes)

pub loop-at-preserved : goal.loop-at-preserved
loop-at-preserved g c =
    (search rules, subst (Appends _ _) (goes_on c.loop-at.at c.in-Ok.taken c.args.bytes.now) (Appends-trans _ _ _ _ _ c.loop-at.invariant.1 c.in-Ok.ensures.bytes))
