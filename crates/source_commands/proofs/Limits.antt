-- A program has at most 65,536 bytes, and asks for at most 4,194,304 zeros.
use Rattle.std.proofs.Common.{◌≡◌, ◌⊎◌, inl, inr, ◌≤◌, ◌+◌, ℕ, Bool, true, false, if◌then◌else◌, nat_le, List, [], ◌∷◌, ◌++◌, length, Option, Some, None, refl, sym, ap, ◌∙◌, subst, arith}
use Rattle.std.specs.Prelude.{◌&&◌, not, is_some}
use Rattle.std.proofs.lemmas.Bool.Decides.{nat_tests}
use Rattle.asm_grammar.specs.declared.syntax.Statement.{Statement}
use Rattle.asm_grammar.specs.declared.syntax.Statement.TheVariants as statements
use Rattle.asm_grammar.specs.declared.syntax.SourceLine.{SourceLine}
use Rattle.asm_grammar.specs.declared.syntax.Definition.{Definition}
use Rattle.vax_asm.specs.Encoding.{or_zero}
use Rattle.vax_asm.specs.Lines.{items_in}
use Rattle.vax_asm.specs.Program.{IsProgramOf, line_bytes, bounded, address_after, labels_of, definitions, bss_in, item_bss, first_of, bss_found, is_new, is_up_to, statement_bytes, optional_bytes}
use Rattle.vax_asm.proofs.Sizes.{behind_parts}
use Rattle.vax_asm.proofs.Spelled.{some_if}
use Rattle.vax_asm.proofs.Assembling.{address_append}

-- a list is empty, or has a last one
record HasLast (items : List (Option SourceLine)) : Type 0 where
  pub before : List (Option SourceLine)
  pub item : Option SourceLine
  pub split : items ≡ before ++ item ∷ []

last_of : (items : List (Option SourceLine)) → (items ≡ []) ⊎ HasLast items
last_of [] = inl refl
last_of (item ∷ items) = go (last_of items)
  where
    go : (items ≡ []) ⊎ HasLast items → ((item ∷ items) ≡ []) ⊎ HasLast (item ∷ items)
    go (inl empty) = inr (record { before = []; item = item; split = ap (λ (xs : List (Option SourceLine)). item ∷ xs) empty })
    go (inr last) = inr (record { before = item ∷ last.before; item = last.item; split = ap (λ (xs : List (Option SourceLine)). item ∷ xs) last.split })

within_limit : (fits : Bool) (bytes own : List ℕ) → (if fits then Some bytes else None) ≡ Some own → (fits ≡ true) × (bytes ≡ own)
within_limit true bytes own e = (refl, cc)
within_limit false bytes own e = absurd cc

bounded_limit : (at : ℕ) (bytes : Option (List ℕ)) (own : List ℕ) → bounded at bytes ≡ Some own → at + length own ≤ 65536
bounded_limit at None own e = absurd cc
bounded_limit at (Some bytes) own e =
    let is = within_limit (nat_le (at + length bytes) 65536) bytes own e in
    let few : at + length bytes ≤ 65536 = let h = is.0 in grind (arith, nat_tests) in
    subst (λ (xs : List ℕ). at + length xs ≤ 65536) is.1 few

new_limit : (fresh : Bool) (at : ℕ) (bytes : Option (List ℕ)) (own : List ℕ) → (if fresh then bounded at bytes else None) ≡ Some own → at + length own ≤ 65536
new_limit true at bytes own e = bounded_limit at bytes own e
new_limit false at bytes own e = absurd cc

line_limit : (labels : List Definition) (before : List (Option SourceLine)) (item : Option SourceLine) (own : List ℕ) → line_bytes labels before item ≡ Some own
    → address_after before + length own ≤ 65536
unfolding line_bytes
line_limit labels before None own e = absurd cc
line_limit labels before (Some line) own e =
    new_limit (is_new (definitions 0 before) line.label) (address_after before) (optional_bytes labels (is_some (bss_found before)) (address_after before) line.statement) own e

pub program_limit : (source bytes : List ℕ) (bss : ℕ) → IsProgramOf source bytes bss → length bytes ≤ 65536
program_limit source bytes bss program = go (last_of (items_in source))
  where
    go : (items_in source ≡ []) ⊎ HasLast (items_in source) → length bytes ≤ 65536
    go (inl empty) = let none = program.sized ∙ ap address_after empty in omega (arith, none)
    go (inr last) =
        let stands = program.each last.before last.item [] last.split in
        let few = line_limit (labels_of source) last.before last.item stands.own stands.own_bytes in
        let sum = program.sized ∙ ap address_after last.split ∙ address_append last.before last.item in
        omega (arith, few, sum, stands.sized)

-- ---- `.bss`

both_second : (p q : Bool) → (p && q) ≡ true → q ≡ true
both_second true q e = e
both_second false q e = absurd cc

space_limit : (with_bss negative : Bool) (n : ℕ) → (not with_bss && (not negative && nat_le n 4194304)) ≡ true → n ≤ 4194304
space_limit with_bss negative n e =
    let h : nat_le n 4194304 ≡ true = both_second (not negative) (nat_le n 4194304) (both_second (not with_bss) (not negative && nat_le n 4194304) e) in
    grind (arith, nat_tests)

statement_limit : (labels : List Definition) (with_bss : Bool) (at : ℕ) (statement : Option Statement) (own : List ℕ)
    → optional_bytes labels with_bss at statement ≡ Some own → or_zero (bss_in statement) ≤ 4194304
unfolding statement_bytes
statement_limit labels with_bss at None own e = omega arith
statement_limit labels with_bss at (Some (statements.Byte value)) own e = omega arith
statement_limit labels with_bss at (Some (statements.Word value)) own e = omega arith
statement_limit labels with_bss at (Some (statements.Long value)) own e = omega arith
statement_limit labels with_bss at (Some (statements.Space number)) own e = omega arith
statement_limit labels with_bss at (Some (statements.Bss number)) own e =
    space_limit with_bss number.negative number.magnitude (some_if (not with_bss && is_up_to 4194304 number) (Some []) own e).0
statement_limit labels with_bss at (Some (statements.Instruction sentence)) own e = omega arith

item_limit : (labels : List Definition) (before : List (Option SourceLine)) (item : Option SourceLine) (own : List ℕ) → line_bytes labels before item ≡ Some own
    → or_zero (item_bss item) ≤ 4194304
unfolding line_bytes
item_limit labels before None own e = absurd cc
item_limit labels before (Some line) own e =
    statement_limit labels (is_some (bss_found before)) (address_after before) line.statement own
    (behind_parts labels (definitions 0 before) (is_some (bss_found before)) (address_after before) line own e).0

first_limit : (most : ℕ) (one other : Option ℕ) → or_zero one ≤ most → or_zero other ≤ most → or_zero (first_of one other) ≤ most
first_limit most None other h k = k
first_limit most (Some n) other h k = h

found_limit : (most : ℕ) (items : List (Option SourceLine))
    → ((before : List (Option SourceLine)) (item : Option SourceLine) (others : List (Option SourceLine)) → items ≡ before ++ item ∷ others
    → or_zero (item_bss item) ≤ most)
    → or_zero (bss_found items) ≤ most
found_limit most [] each = omega arith
found_limit most (first ∷ items) each =
    first_limit most (item_bss first) (bss_found items) (each [] first items refl)
    (found_limit most items (λ before item others split. each (first ∷ before) item others (ap (λ (xs : List (Option SourceLine)). first ∷ xs) split)))

pub bss_limit : (source bytes : List ℕ) (bss : ℕ) → IsProgramOf source bytes bss → bss ≤ 4194304
bss_limit source bytes bss program = subst (λ (n : ℕ). n ≤ 4194304) (sym program.bss_is) (found_limit 4194304 (items_in source) each)
  where
    each : (before : List (Option SourceLine)) (item : Option SourceLine) (others : List (Option SourceLine)) → items_in source ≡ before ++ item ∷ others → or_zero (item_bss item) ≤ 4194304
    each before item others split =
        let stands = program.each before item others split in
        item_limit (labels_of source) before item stands.own stands.own_bytes
