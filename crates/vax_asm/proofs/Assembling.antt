-- The lines of a source so far, laid out.
use Rattle.std.proofs.Common.{◌≡◌, ◌⊎◌, inl, inr, ℕ, zero, suc, ◌+◌, ◌-◌, ◌<◌, ◌≤◌, Bool, true, false, List, [], ◌∷◌, ◌++◌, length, take, map, Option, Some, None, refl, sym, ◌∙◌, ap, subst, arith, length-append, append_assoc}
use Rattle.std.specs.Prelude.{if◌then◌else◌, is_some, ◌==◌}
use Rattle.std.specs.Option.{unwrap_or}
use Rattle.std.proofs.lemmas.List.{append-nil}
use Rattle.asm_grammar.specs.Text.{◌>>=◌}
use Rattle.asm_grammar.specs.Lines.{items_in, lines_in, item_of, put_before}
use Rattle.asm_grammar.specs.Encoding.{or_zero}
use Rattle.vax_asm.specs.Program.{item_size, address_after, item_definition, definitions, labels_of, bss_in, item_bss, first_of, bss_found, line_bytes, bytes_behind, laid, Puts, IsFirstBad}
use Rattle.asm_grammar.specs.declared.syntax.SourceLine.{SourceLine}
use Rattle.asm_grammar.specs.declared.syntax.Definition.{Definition}
use Rattle.asm_grammar.proofs.Spelled.{bind_some, some_same}
use Rattle.vax_asm.proofs.Sizes.{line_long, behind_within}

-- ---- no line is left

no_items : (rest : List ℕ) → length rest ≡ 0 → items_in rest ≡ []
unfolding items_in lines_in
no_items [] e = refl
no_items (byte ∷ rest) e = absurd (omega (arith, e))

pub labels_end : (labels : List Definition) (at left : ℕ) (rest : List ℕ) (all : List Definition) → (length rest ≡ 0) ⊎ (left ≡ 0)
    → labels ++ definitions at (take left (items_in rest)) ≡ all → labels ≡ all
labels_end labels at left rest all (inl e) h =
    let none : take left (items_in rest) ≡ [] = ap (take left) (no_items rest e) ∙ take_none left in
    sym (append-nil labels) ∙ ap (λ (l : List (Option SourceLine)). labels ++ definitions at l) (sym none) ∙ h
  where
    take_none : (n : ℕ) → take n (let l : List (Option SourceLine) = [] in l) ≡ []
    take_none zero = refl
    take_none (suc n) = refl
labels_end labels at left rest all (inr e) h =
    let none : take left (items_in rest) ≡ [] = ap (λ (n : ℕ). take n (items_in rest)) e ∙ take_zero (items_in rest) in
    sym (append-nil labels) ∙ ap (λ (l : List (Option SourceLine)). labels ++ definitions at l) (sym none) ∙ h
  where
    take_zero : (l : List (Option SourceLine)) → take 0 l ≡ []
    take_zero [] = refl
    take_zero (x ∷ l) = refl

-- ---- one more line

pub labels_step : (labels labels' : List Definition) (at left size : ℕ) (rest more : List ℕ) (item : Option SourceLine) (all : List Definition)
    → labels' ≡ labels ++ item_definition at item → size ≡ item_size item → 0 < left → items_in rest ≡ item ∷ items_in more
    → labels ++ definitions at (take left (items_in rest)) ≡ all → labels' ++ definitions (at + size) (take (left - 1) (items_in more)) ≡ all
labels_step labels labels' at zero size rest more item all e sized some next h = absurd (omega (arith, some))
labels_step labels labels' at (suc left) size rest more item all e sized some next h =
    let one_less : suc left - 1 ≡ left = omega arith in
    ap (λ (n : ℕ). labels' ++ definitions (at + n) (take (suc left - 1) (items_in more))) sized ∙
    ap (λ (n : ℕ). labels' ++ definitions (at + item_size item) (take n (items_in more))) one_less ∙
    ap (λ (l : List Definition). l ++ definitions (at + item_size item) (take left (items_in more))) e ∙
    append_assoc labels (item_definition at item) (definitions (at + item_size item) (take left (items_in more))) ∙
    ap (λ (l : List (Option SourceLine)). labels ++ definitions at (take (suc left) l)) (sym next) ∙ h

pub address_append : (before : List (Option SourceLine)) (item : Option SourceLine)
    → address_after (before ++ item ∷ []) ≡ address_after before + item_size item
address_append [] item = omega arith
address_append (x ∷ before) item = (let more : address_after (before ++ item ∷ []) ≡ address_after before + item_size item = address_append before item in
    sums (item_size x) (address_after (before ++ item ∷ [])) (address_after before) (item_size item) more)
  where
    sums : (x a b i : ℕ) → a ≡ b + i → x + a ≡ x + b + i
    sums x a b i e = omega arith

definitions_append : (at : ℕ) (before : List (Option SourceLine)) (item : Option SourceLine)
    → definitions at (before ++ item ∷ []) ≡ definitions at before ++ item_definition (at + address_after before) item
definitions_append at [] item = append-nil (item_definition at item) ∙ ap (λ (n : ℕ). item_definition n item) (zero_more at)
  where
    zero_more : (n : ℕ) → n ≡ n + 0
    zero_more n = omega arith
definitions_append at (x ∷ before) item =
    ap (λ (l : List Definition). item_definition at x ++ l)
    (definitions_append (at + item_size x) before item ∙ ap (λ (n : ℕ). definitions (at + item_size x) before ++ item_definition n item) (sums at (item_size x) (address_after before))) ∙
    sym (append_assoc (item_definition at x) (definitions (at + item_size x) before) (item_definition (at + (item_size x + address_after before)) item))
  where
    sums : (a x b : ℕ) → a + x + b ≡ a + (x + b)
    sums a x b = omega arith

first_none : (o : Option ℕ) → first_of o None ≡ o
first_none None = refl
first_none (Some n) = refl

first_assoc : (o p q : Option ℕ) → first_of o (first_of p q) ≡ first_of (first_of o p) q
first_assoc None p q = refl
first_assoc (Some n) p q = refl

bss_append : (before : List (Option SourceLine)) (item : Option SourceLine) → bss_found (before ++ item ∷ []) ≡ first_of (bss_found before) (item_bss item)
bss_append [] item = first_none (item_bss item)
bss_append (x ∷ before) item = ap (first_of (item_bss x)) (bss_append before item) ∙ first_assoc (item_bss x) (bss_found before) (item_bss item)

bind_is : {A B : Type 0} (o : Option A) (f : A → Option B) (x : A) → o ≡ Some x → (o >>= f) ≡ f x
bind_is {A} o f x e = ap (λ (p : Option A). p >>= f) e

laid_append : (labels : List Definition) (outer before : List (Option SourceLine)) (item : Option SourceLine) (bytes own : List ℕ)
    → laid labels outer before ≡ Some bytes → line_bytes labels (outer ++ before) item ≡ Some own
    → laid labels outer (before ++ item ∷ []) ≡ Some (bytes ++ own)
laid_append labels outer [] item bytes own e f =
    let none : [] ≡ bytes = some_same _ _ e in
    let here : line_bytes labels outer item ≡ Some own = ap (λ (l : List (Option SourceLine)). line_bytes labels l item) (sym (append-nil outer)) ∙ f in
    bind_is (line_bytes labels outer item) (λ own. Some (own ++ [])) own here ∙ ap (λ (l : List ℕ). Some l) (append-nil own ∙ ap (λ (l : List ℕ). l ++ own) none)
laid_append labels outer (x ∷ before) item bytes own e f =
    let a = bind_some (line_bytes labels outer x) (λ own. laid labels (outer ++ x ∷ []) before >>= λ others. Some (own ++ others)) bytes e in
    let b = bind_some (laid labels (outer ++ x ∷ []) before) (λ others. Some (a.0 ++ others)) bytes a.2 in
    let inner : line_bytes labels ((outer ++ x ∷ []) ++ before) item ≡ Some own = ap (λ (l : List (Option SourceLine)). line_bytes labels l item) (append_assoc outer (x ∷ []) before) ∙ f in
    let more = laid_append labels (outer ++ x ∷ []) before item b.0 own b.1 inner in
    let joined : a.0 ++ b.0 ≡ bytes = some_same _ _ b.2 in
    bind_is (line_bytes labels outer x) (λ own. laid labels (outer ++ x ∷ []) (before ++ item ∷ []) >>= λ others. Some (own ++ others)) a.0 a.1 ∙
    bind_is (laid labels (outer ++ x ∷ []) (before ++ item ∷ [])) (λ others. Some (a.0 ++ others)) (b.0 ++ own) more ∙
    ap (λ (l : List ℕ). Some l) (sym (append_assoc a.0 b.0 own) ∙ ap (λ (l : List ℕ). l ++ own) joined)

-- ---- the loop

-- the lines so far have no fault, and these are their bytes, labels and `.bss`
pub record Progress (labels : List Definition) (source rest : List ℕ) (number : ℕ) (bytes : List ℕ) (earlier : List Definition) (bss : Option ℕ) : Type 0 where
  pub before : List (Option SourceLine)
  pub split : items_in source ≡ before ++ items_in rest
  pub count : number ≡ length before + 1
  pub so_far : laid labels [] before ≡ Some bytes
  pub address : address_after before ≡ length bytes
  pub defined : definitions 0 before ≡ earlier
  pub bss_so_far : bss_found before ≡ bss

pub progress_start : (labels : List Definition) (source : List ℕ) → Progress labels source source 1 [] [] None
progress_start labels source = record { before = []; split = refl; count = refl; so_far = refl; address = refl; defined = refl; bss_so_far = refl }

pub puts_true : (old new : List ℕ) (o : Option (List ℕ)) → Puts true old o new → (own : List ℕ) × (o ≡ Some own) × (new ≡ old ++ own)
puts_true old new None h = absurd h
puts_true old new (Some own) h = (own, refl, h)

pub puts_false : (old new : List ℕ) (o : Option (List ℕ)) → Puts false old o new → o ≡ None
puts_false old new None h = refl
puts_false old new (Some own) h = absurd h

behind_is : (labels earlier : List Definition) (before : List (Option SourceLine)) (at : ℕ) (bss : Option ℕ) (line : SourceLine)
    → definitions 0 before ≡ earlier → bss_found before ≡ bss → address_after before ≡ at
    → line_bytes labels before (Some line) ≡ bytes_behind labels earlier (is_some bss) at line
unfolding line_bytes
behind_is labels earlier before at bss line e f g =
    ap (λ (l : List Definition). bytes_behind labels l (is_some (bss_found before)) (address_after before) line) e ∙
    ap (λ (o : Option ℕ). bytes_behind labels earlier (is_some o) (address_after before) line) f ∙
    ap (λ (n : ℕ). bytes_behind labels earlier (is_some bss) n line) g

pub progress_step : (labels : List Definition) (source rest more : List ℕ) (number : ℕ) (bytes bytes' : List ℕ) (earlier earlier' : List Definition)
    (bss bss' : Option ℕ) (line : SourceLine)
    → Progress labels source rest number bytes earlier bss → items_in rest ≡ Some line ∷ items_in more
    → Puts true bytes (bytes_behind labels earlier (is_some bss) (length bytes) line) bytes'
    → earlier' ≡ earlier ++ item_definition (length bytes) (Some line) → bss' ≡ first_of bss (bss_in line.statement)
    → Progress labels source more (number + 1) bytes' earlier' bss'
progress_step labels source rest more number bytes bytes' earlier earlier' bss bss' line h next put defined' found' =
    let p = puts_true bytes bytes' (bytes_behind labels earlier (is_some bss) (length bytes) line) put in
    let own : line_bytes labels h.before (Some line) ≡ Some p.0 = behind_is labels earlier h.before (length bytes) bss line h.defined h.bss_so_far h.address ∙ p.1 in
    let long : length p.0 ≡ item_size (Some line) = line_long labels h.before (Some line) p.0 own in
    let whole : length bytes' ≡ length bytes + length p.0 = ap length p.2 ∙ length-append bytes p.0 in
    let counted : length (h.before ++ Some line ∷ []) ≡ length h.before + 1 = length-append h.before (Some line ∷ []) in
    record {
      before = h.before ++ Some line ∷ [];
      split = h.split ∙ ap (λ (l : List (Option SourceLine)). h.before ++ l) next ∙ sym (append_assoc h.before (Some line ∷ []) (items_in more));
      count = ap (λ (n : ℕ). n + 1) (h.count ∙ sym counted);
      so_far = laid_append labels [] h.before (Some line) bytes p.0 h.so_far own ∙ ap (λ (l : List ℕ). Some l) (sym p.2);
      address = address_append h.before (Some line) ∙ ap (λ (n : ℕ). n + item_size (Some line)) h.address ∙ ap (λ (n : ℕ). length bytes + n) (sym long) ∙ sym whole;
      defined = definitions_append 0 h.before (Some line) ∙ ap (λ (l : List Definition). l ++ item_definition (0 + address_after h.before) (Some line)) h.defined
          ∙ ap (λ (n : ℕ). earlier ++ item_definition n (Some line)) (zero_and (address_after h.before) ∙ h.address) ∙ sym defined';
      bss_so_far = bss_append h.before (Some line) ∙ ap (λ (o : Option ℕ). first_of o (bss_in line.statement)) h.bss_so_far ∙ sym found';
    }
  where
    zero_and : (n : ℕ) → 0 + n ≡ n
    zero_and n = omega arith

-- the next line is bad
pub progress_bad : (labels : List Definition) (source rest : List ℕ) (others : List (Option SourceLine)) (number : ℕ) (bytes : List ℕ)
    (earlier : List Definition) (bss : Option ℕ) (item : Option SourceLine)
    → labels ≡ labels_of source → Progress labels source rest number bytes earlier bss → items_in rest ≡ item ∷ others → number ≤ 4097
    → ((before : List (Option SourceLine)) → definitions 0 before ≡ earlier → bss_found before ≡ bss → address_after before ≡ length bytes → number ≤ 4096
    → line_bytes labels before item ≡ None)
    → IsFirstBad source number
progress_bad labels source rest others number bytes earlier bss item is h next few fault = record {
  before = h.before;
  bad = item;
  others = others;
  split = h.split ∙ ap (λ (l : List (Option SourceLine)). h.before ++ l) next;
  number = h.count;
  bytes = bytes;
  good = ap (λ (l : List Definition). laid l [] h.before) (sym is) ∙ h.so_far;
  fault = λ small. ap (λ (l : List Definition). line_bytes l h.before item) (sym is) ∙ fault h.before h.defined h.bss_so_far h.address small;
  limit = few;
}

-- a line outside the grammar
pub none_bad : (labels : List Definition) (before : List (Option SourceLine)) → line_bytes labels before None ≡ None
unfolding line_bytes
none_bad labels before = refl

-- a line whose bytes can't be put
pub put_bad : (labels earlier : List Definition) (before : List (Option SourceLine)) (bytes bytes' : List ℕ) (bss : Option ℕ) (line : SourceLine)
    → Puts false bytes (bytes_behind labels earlier (is_some bss) (length bytes) line) bytes' → definitions 0 before ≡ earlier
    → bss_found before ≡ bss → address_after before ≡ length bytes → line_bytes labels before (Some line) ≡ None
put_bad labels earlier before bytes bytes' bss line put e f g =
    behind_is labels earlier before (length bytes) bss line e f g ∙ puts_false bytes bytes' (bytes_behind labels earlier (is_some bss) (length bytes) line) put

pub room_after : (labels earlier : List Definition) (with_bss : Bool) (bytes bytes' : List ℕ) (line : SourceLine)
    → Puts true bytes (bytes_behind labels earlier with_bss (length bytes) line) bytes' → length bytes' ≤ 65536
room_after labels earlier with_bss bytes bytes' line put =
    let p = puts_true bytes bytes' (bytes_behind labels earlier with_bss (length bytes) line) put in
    let few : length bytes + length p.0 ≤ 65536 = behind_within labels earlier with_bss (length bytes) line p.0 p.1 in
    let whole : length bytes' ≡ length bytes + length p.0 = ap length p.2 ∙ length-append bytes p.0 in
    omega (arith, few, whole)

put_some : (byte : ℕ) (lines : List (Option (List ℕ))) → (line : Option (List ℕ)) × (others : List (Option (List ℕ))) × (put_before byte lines ≡ line ∷ others)
put_some byte [] = (None, [], refl)
put_some byte (None ∷ lines) = (None, lines, refl)
put_some byte (Some line ∷ lines) = (Some (byte ∷ line), lines, refl)

line_some : (byte : ℕ) (rest : List ℕ) (t : Bool)
    → (line : Option (List ℕ)) × (others : List (Option (List ℕ))) × ((if t then Some [] ∷ lines_in rest else put_before byte (lines_in rest)) ≡ line ∷ others)
line_some byte rest true = (Some [], lines_in rest, refl)
line_some byte rest false = put_some byte (lines_in rest)

pub some_item : (rest : List ℕ) → 0 < length rest → (item : Option SourceLine) × (others : List (Option SourceLine)) × (items_in rest ≡ item ∷ others)
unfolding items_in lines_in
some_item [] h = absurd (omega (arith, h))
some_item (byte ∷ rest) h =
    let l = line_some byte rest (byte == 10) in
    (item_of l.0, map item_of l.1, ap (λ (ls : List (Option (List ℕ))). map item_of ls) l.2)

-- ---- the end

pub progress_end : (labels : List Definition) (source rest : List ℕ) (number : ℕ) (bytes : List ℕ) (earlier : List Definition) (bss : Option ℕ)
    → labels ≡ labels_of source → Progress labels source rest number bytes earlier bss → length rest ≡ 0 → number ≤ 4097
    → (length (items_in source) ≤ 4096) × (laid (labels_of source) [] (items_in source) ≡ Some bytes) × (length bytes ≡ address_after (items_in source))
    × (or_zero bss ≡ or_zero (bss_found (items_in source)))
progress_end labels source rest number bytes earlier bss is h none few =
    let all : items_in source ≡ h.before = h.split ∙ ap (λ (l : List (Option SourceLine)). h.before ++ l) (no_items rest none) ∙ append-nil h.before in
    let lengths : length (items_in source) ≡ length h.before = ap length all in
    let counted : number ≡ length h.before + 1 = h.count in (
      omega (arith, lengths, counted, few),
      ap (λ (l : List Definition). laid l [] (items_in source)) (sym is) ∙ ap (laid labels []) all ∙ h.so_far,
      sym h.address ∙ ap address_after (sym all),
      ap or_zero (sym h.bss_so_far ∙ ap bss_found (sym all)),
    )

-- what was put, by what is known of the labels and the `.bss` so far
pub put_as : (put t : Bool) (bytes bytes' : List ℕ) (labels earlier given : List Definition) (bss : Option ℕ) (with_bss : Bool) (line : SourceLine)
    → put ≡ t → given ≡ earlier → with_bss ≡ is_some bss → Puts put bytes (bytes_behind labels given with_bss (length bytes) line) bytes'
    → Puts t bytes (bytes_behind labels earlier (is_some bss) (length bytes) line) bytes'
put_as put t bytes bytes' labels earlier given bss with_bss line e f g h =
    subst (λ (p : Bool). Puts p bytes (bytes_behind labels earlier (is_some bss) (length bytes) line) bytes') e
    (subst (λ (l : List Definition). Puts put bytes (bytes_behind labels l (is_some bss) (length bytes) line) bytes') f
    (subst (λ (b : Bool). Puts put bytes (bytes_behind labels given b (length bytes) line) bytes') g h))

pub or_zero_is : (bss : Option ℕ) → unwrap_or bss 0 ≡ or_zero bss
or_zero_is None = refl
or_zero_is (Some n) = refl
