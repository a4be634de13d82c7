-- The lines of a source so far, none of which has a reason against it.
use Rattle.std.proofs.Common.{◌≡◌, ℕ, ◌+◌, ◌-◌, ◌<◌, ◌≤◌, Bool, true, false, List, [], ◌∷◌, ◌++◌, length, take, Option, Some, None, refl, sym, ◌∙◌, ap, subst, arith, length-append, append_assoc}
use Rattle.std.specs.Prelude.{if◌then◌else◌, is_some, is_none, nat_le, slice_get}
use Rattle.std.proofs.lemmas.Bool.Decides.{nat_tests}
use Rattle.asm_grammar.specs.Text.{◌>>=◌}
use Rattle.asm_grammar.specs.Lines.{items_in, lines_in, item_of}
use Rattle.asm_grammar.specs.Encoding.{or_zero}
use Rattle.vax_asm.specs.Program.{item_size, optional_size, address_after, item_definition, definitions, labels_of, bss_in, first_of, bss_found, line_bytes, bytes_behind, Puts, IsFirstBad, IsProgramOf}
use Rattle.vax_asm.specs.Reasons.{line_reason, outside_reason, reason_by, reason_behind, reason_of}
use Rattle.asm_grammar.specs.declared.syntax.SourceLine.{SourceLine}
use Rattle.asm_grammar.specs.declared.syntax.Definition.{Definition}
use Rattle.vax_asm.specs.declared.answers.Reason.{Reason}
use Rattle.vax_asm.specs.declared.answers.Reason.TheVariants as reasons
use Rattle.asm_grammar.proofs.Items.{item_by_line}
use Rattle.vax_asm.proofs.Sizes.{behind_parts, behind_within}
use Rattle.vax_asm.proofs.Assembling.{Progress, progress_start, progress_step, progress_bad, progress_end, none_bad, put_bad, some_item}
use Rattle.vax_asm.proofs.Standing.{stands_at}
use Rattle.vax_asm.proofs.Agreeing.{line_agrees}

-- the lines above have no fault, and these are their labels, their end and their `.bss`
pub record Walked (labels : List Definition) (source rest : List ℕ) (number at : ℕ) (earlier : List Definition) (bss : Option ℕ) : Type 0 where
  pub bytes : List ℕ
  pub progress : Progress labels source rest number bytes earlier bss
  pub end : at ≡ length bytes
  pub room : at ≤ 65536
  pub above : List (Option (List ℕ))
  pub lines : lines_in source ≡ above ++ lines_in rest
  pub count : number ≡ length above + 1

pub walked_start : (labels : List Definition) (source : List ℕ) → Walked labels source source 1 0 [] None
walked_start labels source = record { bytes = []; progress = progress_start labels source; end = refl; room = omega arith; above = []; lines = refl; count = refl }

bytes_where : (reason : Option Reason) (bytes : Option (List ℕ)) → is_none reason ≡ is_some bytes → reason ≡ None → (own : List ℕ) × (bytes ≡ Some own)
bytes_where reason (Some own) e f = (own, refl)
bytes_where reason None e f = absurd (cc)

no_bytes_where : (reason : Option Reason) (bytes : Option (List ℕ)) (why : Reason) → is_none reason ≡ is_some bytes → reason ≡ Some why → bytes ≡ None
no_bytes_where reason None why e f = refl
no_bytes_where reason (Some own) why e f = absurd (cc)

pub walked_step : (labels : List Definition) (source rest more : List ℕ) (number at size : ℕ) (earlier earlier' : List Definition) (bss bss' : Option ℕ)
    (text : Option (List ℕ)) (line : SourceLine)
    → Walked labels source rest number at earlier bss → lines_in rest ≡ text ∷ lines_in more → item_of text ≡ Some line
    → line_reason labels earlier (is_some bss) at line ≡ None
    → earlier' ≡ earlier ++ item_definition at (Some line) → size ≡ item_size (Some line) → bss' ≡ first_of bss (bss_in line.statement)
    → Walked labels source more (number + 1) (at + size) earlier' bss'
walked_step labels source rest more number at size earlier earlier' bss bss' text line h next says good defined sized found =
    let own = bytes_where (line_reason labels earlier (is_some bss) at line) (bytes_behind labels earlier (is_some bss) at line) (line_agrees labels earlier (is_some bss) at line) good in
    let here : bytes_behind labels earlier (is_some bss) (length h.bytes) line ≡ Some own.0 = ap (λ (n : ℕ). bytes_behind labels earlier (is_some bss) n line) (sym h.end) ∙ own.1 in
    let put : Puts true h.bytes (bytes_behind labels earlier (is_some bss) (length h.bytes) line) (h.bytes ++ own.0) =
    subst (λ (o : Option (List ℕ)). Puts true h.bytes o (h.bytes ++ own.0)) (sym here) refl in
    let items : items_in rest ≡ Some line ∷ items_in more = item_by_line rest more text next ∙ ap (λ (i : Option SourceLine). i ∷ items_in more) says in
    let long : length own.0 ≡ optional_size line.statement = (behind_parts labels earlier (is_some bss) at line own.0 own.1).1 in
    let whole : length (h.bytes ++ own.0) ≡ length h.bytes + length own.0 = length-append h.bytes own.0 in
    let within : at + length own.0 ≤ 65536 = behind_within labels earlier (is_some bss) at line own.0 own.1 in
    let as_long : size ≡ length own.0 = sized ∙ sym long in
    record {
      bytes = h.bytes ++ own.0;
      progress = progress_step labels source rest more number h.bytes (h.bytes ++ own.0) earlier earlier' bss bss' line h.progress items put
          (defined ∙ ap (λ (n : ℕ). earlier ++ item_definition n (Some line)) h.end) found;
      end = ap (λ (n : ℕ). n + size) h.end ∙ ap (λ (n : ℕ). length h.bytes + n) as_long ∙ sym whole;
      room = subst (λ (n : ℕ). at + n ≤ 65536) (sym as_long) within;
      above = h.above ++ text ∷ [];
      lines = h.lines ∙ ap (λ (l : List (Option (List ℕ))). h.above ++ l) next ∙ sym (append_assoc h.above (text ∷ []) (lines_in more));
      count = ap (λ (n : ℕ). n + 1) (h.count ∙ sym (length-append h.above (text ∷ [])));
    }

-- ---- the line at which a walk stops

get_behind : {A : Type 0} (xs : List A) (y : A) (ys : List A) → slice_get (xs ++ y ∷ ys) (length xs) ≡ Some y
get_behind [] y ys = refl
get_behind (x ∷ xs) y ys = get_behind xs y ys

take_before : {A : Type 0} (xs ys : List A) → take (length xs) (xs ++ ys) ≡ xs
take_before [] [] = refl
take_before [] (y ∷ ys) = refl
take_before {A} (x ∷ xs) ys = ap (λ (l : List A). x ∷ l) (take_before xs ys)

one_less : (n m : ℕ) → n ≡ m + 1 → n - 1 ≡ m
one_less n m e = omega (arith, e)

-- the reason of the next line is that of the line of this number
reason_here : (labels : List Definition) (source rest more : List ℕ) (number at : ℕ) (earlier : List Definition) (bss : Option ℕ) (text : Option (List ℕ))
    (h : Walked labels source rest number at earlier bss) → labels ≡ labels_of source → number ≤ 4096 → lines_in rest ≡ text ∷ lines_in more
    → reason_of source number ≡ reason_behind labels h.progress.before text
unfolding reason_of
reason_here labels source rest more number at earlier bss text h is few next =
    let small : nat_le number 4096 ≡ true = grind (arith, nat_tests) in
    let split : lines_in source ≡ h.above ++ text ∷ lines_in more = h.lines ∙ ap (λ (l : List (Option (List ℕ))). h.above ++ l) next in
    let line : slice_get (lines_in source) (number - 1) ≡ Some text =
    ap (slice_get (lines_in source)) (one_less number (length h.above) h.count) ∙ ap (λ (l : List (Option (List ℕ))). slice_get l (length h.above)) split ∙ get_behind h.above text (lines_in more) in
    let before : take (number - 1) (items_in source) ≡ h.progress.before =
    ap (λ (n : ℕ). take n (items_in source)) (one_less number (length h.progress.before) h.progress.count) ∙ ap (take (length h.progress.before)) h.progress.split
    ∙ take_before h.progress.before (items_in rest) in
    ap (λ (t : Bool). if t then (slice_get (lines_in source) (number - 1) >>= λ text. reason_behind (labels_of source) (take (number - 1) (items_in source)) text) else Some reasons.TooManyLines) small
    ∙
    ap (λ (o : Option (Option (List ℕ))). o >>= λ text. reason_behind (labels_of source) (take (number - 1) (items_in source)) text) line ∙
    ap (λ (l : List (Option SourceLine)). reason_behind (labels_of source) l text) before ∙
    ap (λ (l : List Definition). reason_behind l h.progress.before text) (sym is)

-- a line after 4,096 others
pub walked_too_many : (labels : List Definition) (source rest : List ℕ) (number at : ℕ) (earlier : List Definition) (bss : Option ℕ) → labels ≡ labels_of source
    → Walked labels source rest number at earlier bss → number ≤ 4097 → 4096 < number → 0 < length rest
    → IsFirstBad source number × (reason_of source number ≡ Some reasons.TooManyLines)
unfolding reason_of
walked_too_many labels source rest number at earlier bss is h few many some =
    let large : nat_le number 4096 ≡ false = grind (arith, nat_tests) in
    let next = some_item rest some in (
      progress_bad labels source rest next.1 number h.bytes earlier bss next.0 is h.progress next.2 few (λ before e f g small. absurd (omega (arith, small, many))),
      ap (λ (t : Bool). if t then (slice_get (lines_in source) (number - 1) >>= λ text. reason_behind (labels_of source) (take (number - 1) (items_in source)) text) else Some reasons.TooManyLines)
          large,
    )

-- a line outside the grammar
pub walked_outside : (labels : List Definition) (source rest more : List ℕ) (number at : ℕ) (earlier : List Definition) (bss : Option ℕ)
    (text : Option (List ℕ))
    → labels ≡ labels_of source
    → Walked labels source rest number at earlier bss → number ≤ 4096 → lines_in rest ≡ text ∷ lines_in more → item_of text ≡ None
    → IsFirstBad source number × (reason_of source number ≡ Some (outside_reason text))
unfolding reason_behind
walked_outside labels source rest more number at earlier bss text is h few next says = (
  progress_bad labels source rest (items_in more) number h.bytes earlier bss (item_of text) is h.progress (item_by_line rest more text next) (omega (arith, few))
      (λ before e f g small. ap (line_bytes labels before) says ∙ none_bad labels before),
  reason_here labels source rest more number at earlier bss text h is few next ∙ ap (reason_by labels h.progress.before text) says,
)

by_walk : (labels : List Definition) (source rest : List ℕ) (number at : ℕ) (earlier : List Definition) (bss : Option ℕ)
    (h : Walked labels source rest number at earlier bss) (line : SourceLine)
    → line_reason labels (definitions 0 h.progress.before) (is_some (bss_found h.progress.before)) (address_after h.progress.before) line
    ≡ line_reason labels earlier (is_some bss) at line
by_walk labels source rest number at earlier bss h line =
    ap (λ (l : List Definition). line_reason labels l (is_some (bss_found h.progress.before)) (address_after h.progress.before) line) h.progress.defined ∙
    ap (λ (o : Option ℕ). line_reason labels earlier (is_some o) (address_after h.progress.before) line) h.progress.bss_so_far ∙
    ap (λ (n : ℕ). line_reason labels earlier (is_some bss) n line) (h.progress.address ∙ sym h.end)

-- a line of the grammar with a reason against it
pub walked_bad : (labels : List Definition) (source rest more : List ℕ) (number at : ℕ) (earlier : List Definition) (bss : Option ℕ) (text : Option (List ℕ))
    (line : SourceLine) (why : Reason)
    → labels ≡ labels_of source → Walked labels source rest number at earlier bss → number ≤ 4096 → lines_in rest ≡ text ∷ lines_in more
    → item_of text ≡ Some line
    → line_reason labels earlier (is_some bss) at line ≡ Some why → IsFirstBad source number × (reason_of source number ≡ Some why)
unfolding reason_behind
walked_bad labels source rest more number at earlier bss text line why is h few next says reason =
    let none : bytes_behind labels earlier (is_some bss) at line ≡ None = no_bytes_where (line_reason labels earlier (is_some bss) at line) (bytes_behind labels earlier (is_some bss) at line) why
    (line_agrees labels earlier (is_some bss) at line) reason in
    let here : bytes_behind labels earlier (is_some bss) (length h.bytes) line ≡ None = ap (λ (n : ℕ). bytes_behind labels earlier (is_some bss) n line) (sym h.end) ∙ none in
    let put : Puts false h.bytes (bytes_behind labels earlier (is_some bss) (length h.bytes) line) h.bytes = subst (λ (o : Option (List ℕ)). Puts false h.bytes o h.bytes) (sym here) tt in (
      progress_bad labels source rest (items_in more) number h.bytes earlier bss (item_of text) is h.progress (item_by_line rest more text next) (omega (arith, few))
          (λ before e f g small. ap (line_bytes labels before) says ∙ put_bad labels earlier before h.bytes h.bytes bss line put e f g),
      reason_here labels source rest more number at earlier bss text h is few next ∙ ap (reason_by labels h.progress.before text) says
          ∙ by_walk labels source rest number at earlier bss h line ∙ reason,
    )

-- no line is left
pub walked_end : (labels : List Definition) (source rest : List ℕ) (number at : ℕ) (earlier : List Definition) (bss : Option ℕ) → labels ≡ labels_of source
    → Walked labels source rest number at earlier bss → length rest ≡ 0 → number ≤ 4097 → (bytes : List ℕ) × (bss : ℕ) × IsProgramOf source bytes bss
walked_end labels source rest number at earlier bss is h none few =
    let end = progress_end labels source rest number h.bytes earlier bss is h.progress none few in
    (h.bytes, or_zero bss, record { few = end.0; whole = end.1; sized = end.2; each = stands_at source (labels_of source) h.bytes end.1; bss_is = end.3 })
