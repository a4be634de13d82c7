use Rattle.std.proofs.Common.{◌≡◌, ◌∙◌, ◌+◌, ◌-◌, ◌++◌, ℕ, List, length, take, drop, ap, arith}
use Rattle.std.proofs.lemmas.List.{drop-drop}
use Rattle.vm_facts.proofs.Lists.{overwritten_is}
use Rattle.vm_facts.proofs.bytes.overwrite.Goals as goal

pub returns : goal.returns
returns c =
    let xs : List ℕ = c.args.bytes.now in
    let ys : List ℕ = c.args.with.now in
    let at : ℕ = c.args.at in
    let count : at + length ys - at ≡ length ys = omega arith in
    ap (λ (zs : List ℕ). take at xs ++ (zs ++ drop (at + length ys - at) (drop at xs))) c.copy_from_slice.ensures.after
    ∙ ap (λ (n : ℕ). take at xs ++ (ys ++ drop n (drop at xs))) count
    ∙ ap (λ (zs : List ℕ). take at xs ++ (ys ++ zs)) (drop-drop (length ys) at xs)
    ∙ overwritten_is xs at ys c.requires
