-- Tests and writes, one number after another.
use Rattle.std.proofs.Common.{◌≡◌, ◌∙◌, List, [], ◌∷◌, ◌++◌, refl, ap, sym}
use Rattle.vm_facts.specs.Answers.{Answers, ByteWrite}
use Rattle.user_vax.specs.Program.{Program, Tests, ◌>>=◌, run}
use Rattle.user_vax.specs.Instruction.{MayAll, write_tests}
use Rattle.user_vax.proofs.Runs.{then, run_bind}

pub write_tests-append : (xs ys : List ByteWrite) → write_tests (xs ++ ys) ≡ (write_tests xs >>= λ _. write_tests ys)
unfolding write_tests
write_tests-append [] ys = refl
write_tests-append (x ∷ xs) ys = ap (λ (p : Program (Unit {0})). Tests x.address p) (write_tests-append xs ys)

pub tests_append : (memory : Answers) (xs ys : List ByteWrite)
    → run memory (write_tests (xs ++ ys)) ≡ then (run memory (write_tests xs)) (λ _. run memory (write_tests ys))
tests_append memory xs ys =
    ap (λ (p : Program (Unit {0})). run memory p) (write_tests-append xs ys) ∙ run_bind memory (write_tests xs) (λ _. write_tests ys)

-- what may be written may be written to a memory of the same tests
pub may_along : (some other : Answers) (writes : List ByteWrite) → some.may_write ≡ other.may_write → MayAll some writes → MayAll other writes
may_along some other [] e h = tt
may_along some other (write ∷ writes) e h = (sym (ap (λ test. test write.address) e) ∙ h.0, may_along some other writes e h.1)
