-- What an output took by one call after another.
use Rattle.std.specs.Prelude.{◌≡◌, ◌≤◌, ◌+◌, ◌-◌, ℕ, List, [], ◌++◌, length, take, drop, Option, Some, None}
use Rattle.std.proofs.Common.{◌∙◌, sym, subst, ap, refl, arith, append_assoc, append-nil}
use Rattle.std.proofs.Math.Seq.{take-add}
use Rattle.std.proofs.lemmas.List.{take_all, take_rest}
use Rattle.io_edge.specs.Written.{Appends, AppendsSome}

pub appends_through : (old mid new : Option (List ℕ)) (xs ys : List ℕ) → Appends old xs mid → Appends mid ys new → Appends old (xs ++ ys) new
appends_through None None new xs ys first then = then
appends_through None (Some m) new xs ys first then = cc
appends_through (Some o) None new xs ys first then = cc
appends_through (Some o) (Some m) new xs ys first then =
    let is : m ≡ o ++ xs = cc in
    then ∙ ap (λ (kept : List ℕ). Some kept) (ap (λ (kept : List ℕ). kept ++ ys) is ∙ append_assoc o xs ys)

-- so many bytes, and then so many more of the rest
pub took_more : (old mid new : Option (List ℕ)) (bytes : List ℕ) (done count : ℕ) → Appends old (take done bytes) mid
    → Appends mid (take count (take (length bytes - done) (drop done bytes))) new → Appends old (take (done + count) bytes) new
took_more old mid new bytes done count first then =
    subst (λ (xs : List ℕ). Appends old xs new) (sym (take-add done count bytes))
    (appends_through old mid new (take done bytes) (take count (drop done bytes)) first
    (subst (λ (xs : List ℕ). Appends mid (take count xs) new) (take_rest bytes done) then))

-- all of them
pub took_all : (old new : Option (List ℕ)) (bytes : List ℕ) (done : ℕ) → done ≡ length bytes → Appends old (take done bytes) new → Appends old bytes new
took_all old new bytes done all taken = subst (λ (xs : List ℕ). Appends old xs new) (take_all done bytes (omega (arith, all))) taken

-- so many of them, and then no more
pub took_some : (old mid new : Option (List ℕ)) (bytes : List ℕ) (done : ℕ) → done ≤ length bytes → Appends old (take done bytes) mid → Appends mid [] new
    → AppendsSome old bytes new
took_some old mid new bytes done within first then =
    (done, within, subst (λ (xs : List ℕ). Appends old xs new) (append-nil (take done bytes)) (appends_through old mid new (take done bytes) [] first then))

-- none so far
pub took_none : (told : Option (List ℕ)) (bytes : List ℕ) → Appends told (take 0 bytes) told
took_none None bytes = refl
took_none (Some xs) bytes = ap (λ (kept : List ℕ). Some kept) (sym (append-nil xs))
