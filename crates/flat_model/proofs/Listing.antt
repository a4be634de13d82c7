-- Arguments that are read one after another.
use Rattle.std.proofs.Common.{◌≡◌, ℕ, zero, suc, ◌+◌, ◌-◌, ◌*◌, ◌<◌, List, [], ◌∷◌, ◌++◌, Option, Some, None, Result, Ok, Err, refl, sym, ap, ◌∙◌, append_assoc, arith}
use Rattle.std.proofs.lemmas.List.{append-nil}
use Rattle.flat_model.proofs.Gathering.{left_one}
use Rattle.vm_facts.specs.Answers.{Answers}
use Rattle.user_vax.specs.declared.refused.Refused.{Refused}
use Rattle.user_vax.specs.Program.{Program, Gives, run}
use Rattle.user_vax.specs.Operands.{past, number_at}
use Rattle.user_vax.proofs.Runs.{then, run_bind}
use Rattle.flat_model.specs.Calls.{string_from, string_limit, string_before, before, arguments_from, pointer_after, last_pointer}

-- arguments that were read, and what the rest comes to
abbrev pub after_arguments : List (List ℕ) → Result (Option (List (List ℕ))) Refused → Result (Option (List (List ℕ))) Refused
after_arguments front (Ok (Some more)) = Ok (Some (front ++ more))
after_arguments front (Ok None) = Ok None
after_arguments front (Err refused) = Err refused

abbrev pub pointer_next : Answers → Program (Option (List (List ℕ))) → ℕ → Result (Option (List (List ℕ))) Refused
pointer_next memory more pointer = run memory (pointer_after pointer more)

abbrev pub string_next : Answers → Program (Option (List (List ℕ))) → Option (List ℕ) → Result (Option (List (List ℕ))) Refused
string_next memory more string = run memory (string_before more string)

one : (memory : Answers) (left address : ℕ)
    → run memory (arguments_from (suc left) address) ≡ then (run memory (number_at 4 address)) (pointer_next memory (arguments_from left (past address 4)))
unfolding arguments_from
one memory left address = run_bind memory (number_at 4 address) (λ (pointer : ℕ). pointer_after pointer (arguments_from left (past address 4)))

last : (memory : Answers) (address : ℕ)
    → run memory (arguments_from zero address) ≡ then (run memory (number_at 4 address)) (λ pointer. run memory (last_pointer pointer))
unfolding arguments_from
last memory address = run_bind memory (number_at 4 address) last_pointer

pointed : (memory : Answers) (pointer : ℕ) (more : Program (Option (List (List ℕ)))) → (pointer ≡ 0 → ⊥)
    → pointer_next memory more pointer ≡ then (run memory (string_from string_limit pointer)) (string_next memory more)
pointed memory zero more h = absurd (h refl)
pointed memory (suc n) more h = run_bind memory (string_from string_limit (suc n)) (string_before more)

moved : (front : List (List ℕ)) (string : List ℕ) (rest : Result (Option (List (List ℕ))) Refused)
    → after_arguments front (then rest (λ strings. Ok (before string strings))) ≡ after_arguments (front ++ string ∷ []) rest
moved front string (Ok (Some more)) = ap (λ (x : List (List ℕ)). Ok (Some x)) (sym (append_assoc front (string ∷ []) more))
moved front string (Ok None) = refl
moved front string (Err refused) = refl

past_four : (address index : ℕ) → past (past address (4 * index)) 4 ≡ past address (4 * (index + 1))
past_four address index = omega arith

-- The arguments so far and what is left come to all.
abbrev pub Lists : Answers → ℕ → ℕ → ℕ → List (List ℕ) → Type 0
Lists memory limit address index front =
    run memory (arguments_from limit address) ≡ after_arguments front (run memory (arguments_from (limit - index) (past address (4 * index))))

-- what is left behind the next pointer
abbrev pub rest_of : Answers → ℕ → ℕ → ℕ → Program (Option (List (List ℕ)))
rest_of memory limit address index = arguments_from (limit - (index + 1)) (past address (4 * (index + 1)))

module _ (memory : Answers) (limit address index : ℕ) (front : List (List ℕ)) where
  lists_one : Lists memory limit address index front → index < limit
      → run memory (arguments_from limit address)
      ≡ after_arguments front (then (run memory (number_at 4 (past address (4 * index)))) (pointer_next memory (rest_of memory limit address index)))
  lists_one h below =
      h
      ∙ ap (λ (n : ℕ). after_arguments front (run memory (arguments_from n (past address (4 * index))))) (left_one limit index below)
      ∙ ap (after_arguments front) (one memory (limit - (index + 1)) (past address (4 * index)))
      ∙ ap (λ (a : ℕ). after_arguments front (then (run memory (number_at 4 (past address (4 * index)))) (pointer_next memory (arguments_from (limit - (index + 1)) a)))) (past_four address index)

  pub lists_refused : (refused : Refused) → Lists memory limit address index front → index < limit
      → run memory (number_at 4 (past address (4 * index))) ≡ Err refused → run memory (arguments_from limit address) ≡ Err refused
  lists_refused refused h below e =
      lists_one h below
      ∙ ap (λ (r : Result ℕ Refused). after_arguments front (then r (pointer_next memory (rest_of memory limit address index)))) e

  pub lists_end : Lists memory limit address index front → index < limit
      → run memory (number_at 4 (past address (4 * index))) ≡ Ok 0 → run memory (arguments_from limit address) ≡ Ok (Some front)
  lists_end h below e =
      lists_one h below
      ∙ ap (λ (r : Result ℕ Refused). after_arguments front (then r (pointer_next memory (rest_of memory limit address index)))) e
      ∙ ap (λ (x : List (List ℕ)). Ok (Some x)) (append-nil front)

  lists_string : (pointer : ℕ) → Lists memory limit address index front → index < limit
      → run memory (number_at 4 (past address (4 * index))) ≡ Ok pointer → (pointer ≡ 0 → ⊥)
      → run memory (arguments_from limit address)
      ≡ after_arguments front (then (run memory (string_from string_limit pointer)) (string_next memory (rest_of memory limit address index)))
  lists_string pointer h below e other =
      lists_one h below
      ∙ ap (λ (r : Result ℕ Refused). after_arguments front (then r (pointer_next memory (rest_of memory limit address index)))) e
      ∙ ap (after_arguments front) (pointed memory pointer (rest_of memory limit address index) other)

  pub lists_string_refused : (pointer : ℕ) (refused : Refused) → Lists memory limit address index front → index < limit
      → run memory (number_at 4 (past address (4 * index))) ≡ Ok pointer → (pointer ≡ 0 → ⊥) → run memory (string_from string_limit pointer) ≡ Err refused
      → run memory (arguments_from limit address) ≡ Err refused
  lists_string_refused pointer refused h below e other k =
      lists_string pointer h below e other
      ∙ ap (λ (r : Result (Option (List ℕ)) Refused). after_arguments front (then r (string_next memory (rest_of memory limit address index)))) k

  pub lists_long : (pointer : ℕ) → Lists memory limit address index front → index < limit → run memory (number_at 4 (past address (4 * index))) ≡ Ok pointer
      → (pointer ≡ 0 → ⊥) → run memory (string_from string_limit pointer) ≡ Ok None → run memory (arguments_from limit address) ≡ Ok None
  lists_long pointer h below e other k =
      lists_string pointer h below e other
      ∙ ap (λ (r : Result (Option (List ℕ)) Refused). after_arguments front (then r (string_next memory (rest_of memory limit address index)))) k

  pub lists_more : (pointer : ℕ) (string : List ℕ) → Lists memory limit address index front → index < limit
      → run memory (number_at 4 (past address (4 * index))) ≡ Ok pointer → (pointer ≡ 0 → ⊥) → run memory (string_from string_limit pointer) ≡ Ok (Some string)
      → Lists memory limit address (index + 1) (front ++ string ∷ [])
  lists_more pointer string h below e other k =
      lists_string pointer h below e other
      ∙ ap (λ (r : Result (Option (List ℕ)) Refused). after_arguments front (then r (string_next memory (rest_of memory limit address index)))) k
      ∙ ap (after_arguments front) (run_bind memory (rest_of memory limit address index) (λ (strings : Option (List (List ℕ))). Gives (before string strings)))
      ∙ moved front string (run memory (rest_of memory limit address index))

  -- after the last argument that may be, only a pointer 0 ends the list
  pub lists_last : Lists memory limit address index front → index ≡ limit
      → run memory (arguments_from limit address)
      ≡ after_arguments front (then (run memory (number_at 4 (past address (4 * limit)))) (λ pointer. run memory (last_pointer pointer)))
  lists_last h end =
      h
      ∙ ap (λ (n : ℕ). after_arguments front (run memory (arguments_from n (past address (4 * index))))) (let e : limit - index ≡ 0 = omega arith in e)
      ∙ ap (after_arguments front) (last memory (past address (4 * index)))
      ∙ ap (λ (n : ℕ). after_arguments front (then (run memory (number_at 4 (past address (4 * n)))) (λ pointer. run memory (last_pointer pointer)))) end

  pub last_refused : (refused : Refused) → Lists memory limit address index front → index ≡ limit
      → run memory (number_at 4 (past address (4 * limit))) ≡ Err refused → run memory (arguments_from limit address) ≡ Err refused
  last_refused refused h end e =
      lists_last h end
      ∙ ap (λ (r : Result ℕ Refused). after_arguments front (then r (λ pointer. run memory (last_pointer pointer)))) e

  pub last_end : Lists memory limit address index front → index ≡ limit
      → run memory (number_at 4 (past address (4 * limit))) ≡ Ok 0 → run memory (arguments_from limit address) ≡ Ok (Some front)
  last_end h end e =
      lists_last h end
      ∙ ap (λ (r : Result ℕ Refused). after_arguments front (then r (λ pointer. run memory (last_pointer pointer)))) e
      ∙ ap (λ (x : List (List ℕ)). Ok (Some x)) (append-nil front)

more_than : (memory : Answers) (front : List (List ℕ)) (pointer : ℕ) → (pointer ≡ 0 → ⊥) → after_arguments front (run memory (last_pointer pointer)) ≡ Ok None
more_than memory front zero h = absurd (h refl)
more_than memory front (suc n) h = refl

pub last_long : (memory : Answers) (limit address index : ℕ) (front : List (List ℕ)) (pointer : ℕ) → Lists memory limit address index front → index ≡ limit
    → run memory (number_at 4 (past address (4 * limit))) ≡ Ok pointer → (pointer ≡ 0 → ⊥) → run memory (arguments_from limit address) ≡ Ok None
last_long memory limit address index front pointer h end e other =
    lists_last memory limit address index front h end
    ∙ ap (λ (r : Result ℕ Refused). after_arguments front (then r (λ pointer. run memory (last_pointer pointer)))) e
    ∙ more_than memory front pointer other
