-- The pages of accesses that are near a few starts.
use Rattle.std.proofs.Common.{◌≡◌, ℕ, ◌+◌, ◌-◌, ◌*◌, ◌/◌, ◌%◌, ◌^◌, ◌<◌, ◌≤◌, ltb, Bool, true, false, ◌||◌, List, [], ◌∷◌, length, filter_map, Option, Some, None, ◌⊎◌, inl, inr, refl, sym, ap, ◌∙◌, subst, arith, nat_lt}
use Rattle.std.specs.List.{cons_option}
use Rattle.std.proofs.lemmas.Bool.{cases_eq, lt-ltb}
use Rattle.std.proofs.lemmas.Bool.Decides.{nat_tests}
use Rattle.flat_state.specs.Space.{Space, spot_at, stack_top, address_in}
use Rattle.vm_facts.specs.declared.page.Page.{Page}
use Rattle.vm_facts.specs.declared.page.Page.TheVariants as pages
use Rattle.user_vax.specs.Program.{ByteAccess, ReadOf, TestOf}
use Rattle.flat_state.specs.declared.spot.Spot.{Spot}
use Rattle.flat_state.specs.declared.spot.Spot.TheVariants.{Text, Data, Stack, Below, Outside}
use Rattle.flat_state.specs.PageNames.{same_page, is_among}
use Rattle.flat_state.proofs.Spots.{text_spot, data_spot, stack_spot}
use Rattle.flat_model.specs.Touched.{page_read, page_tested, page_of_access, distinct}
use Rattle.flat_laws.specs.Whole.{IsWhole}
use Rattle.flat_laws.proofs.Near.{IsAt, IsNear}
use Rattle.flat_laws.proofs.Cover.{address_of_access, AreNear}
use Rattle.flat_laws.proofs.Distinct.{among_is, among_later, few_distinct}
use Rattle.flat_state.proofs.PageNames.{same_page_is}
use Rattle.flat_state.proofs.SpotsBeside.{by_stack_alone}

-- the page of a block of 1,024 addresses, where it is of any
abbrev page_by : Bool → Bool → Space → ℕ → Page
page_by true of_data s c = pages.Text s.image c
page_by false true s c = pages.Data s.sid (c - length s.text_bytes / 1024)
page_by false false s c = pages.Stack s.sid (stack_top / 1024 - 1 - c)

unfoldable page_in : Space → ℕ → Page
page_in s c = page_by (nat_lt c (length s.text_bytes / 1024)) (nat_lt c ((length s.text_bytes + length s.data_bytes) / 1024)) s c

-- an address below 2 ^ 32 whose page is that of its block
record IsBlock (s : Space) (x : ℕ) (q : Page) : Type 0 where
  pub low : x < 2 ^ 32
  pub page : q ≡ page_in s (x / 1024)

above_is : (a b : ℕ) → b ≤ a → nat_lt a b ≡ false
above_is a b h = grind (arith, nat_tests)

text_block : (s : Space) (x i : ℕ) → IsWhole s → address_in s x ≡ Text i → IsBlock s x (pages.Text s.image (i / 1024))
unfolding page_in
text_block s x i w e =
    let spot = text_spot (length s.text_bytes) (length s.data_bytes) (length s.stack_bytes) x i e in
    let same = spot.0 in
    let within = spot.1 in
    let fits = w.fits in
    let whole = w.text in
    let of_text : nat_lt (x / 1024) (length s.text_bytes / 1024) ≡ true = lt-ltb _ _ (omega arith) in
    record {
      low = omega arith;
      page = ap (λ (n : ℕ). pages.Text s.image (n / 1024)) (sym same)
          ∙ sym (ap (λ (b : Bool). page_by b (nat_lt (x / 1024) ((length s.text_bytes + length s.data_bytes) / 1024)) s (x / 1024)) of_text);
    }

data_block : (s : Space) (x i : ℕ) → IsWhole s → address_in s x ≡ Data i → IsBlock s x (pages.Data s.sid (i / 1024))
unfolding page_in
data_block s x i w e =
    let spot = data_spot (length s.text_bytes) (length s.data_bytes) (length s.stack_bytes) x i e in
    let same = spot.0 in
    let within = spot.1 in
    let fits = w.fits in
    let whole = w.text in
    let whole_data = w.data in
    let of_text : nat_lt (x / 1024) (length s.text_bytes / 1024) ≡ false = above_is _ _ (omega arith) in
    let of_data : nat_lt (x / 1024) ((length s.text_bytes + length s.data_bytes) / 1024) ≡ true = lt-ltb _ _ (omega arith) in
    let number : i / 1024 ≡ x / 1024 - length s.text_bytes / 1024 = omega arith in
    record {
      low = omega arith;
      page = ap (λ (n : ℕ). pages.Data s.sid n) number
          ∙ sym (ap (λ (b : Bool). page_by b (nat_lt (x / 1024) ((length s.text_bytes + length s.data_bytes) / 1024)) s (x / 1024)) of_text
          ∙ ap (λ (b : Bool). page_by false b s (x / 1024)) of_data);
    }

above_both : (t d s a i : ℕ) → spot_at t d s a ≡ Stack i → (t ≤ a) × (t + d ≤ a)
unfolding spot_at
above_both t d s a i h =
    let at_least : (a b : ℕ) → ltb a b ≡ false → b ≤ a = λ a b e. grind (arith, nat_tests) in
    let found = by_stack_alone (ltb a t) (ltb a (t + d)) _ _ t a i h in
    (at_least a t found.0, at_least a (t + d) found.1)

stack_block : (s : Space) (x i : ℕ) → IsWhole s → address_in s x ≡ Stack i → IsBlock s x (pages.Stack s.sid (i / 1024))
unfolding page_in
stack_block s x i w e =
    let spot = stack_spot (length s.text_bytes) (length s.data_bytes) (length s.stack_bytes) x i e in
    let above = above_both (length s.text_bytes) (length s.data_bytes) (length s.stack_bytes) x i e in
    let index = spot.index in
    let below = spot.below in
    let low = above.0 in
    let high = above.1 in
    let of_text : nat_lt (x / 1024) (length s.text_bytes / 1024) ≡ false = above_is _ _ (omega arith) in
    let of_data : nat_lt (x / 1024) ((length s.text_bytes + length s.data_bytes) / 1024) ≡ false = above_is _ _ (omega arith) in
    let number : i / 1024 ≡ stack_top / 1024 - 1 - x / 1024 = omega arith in
    record {
      low = omega arith;
      page = ap (λ (n : ℕ). pages.Stack s.sid n) number
          ∙ sym (ap (λ (b : Bool). page_by b (nat_lt (x / 1024) ((length s.text_bytes + length s.data_bytes) / 1024)) s (x / 1024)) of_text
          ∙ ap (λ (b : Bool). page_by false b s (x / 1024)) of_data);
    }

of_block : (s : Space) (x : ℕ) (q r : Page) (o : Option Page) → o ≡ Some q → o ≡ Some r → IsBlock s x r → IsBlock s x q
of_block s x q r o e f h = let same : r ≡ q = cc in subst (λ (p : Page). IsBlock s x p) same h

-- the page of an access is that of its address's block
access_block : (s : Space) (access : ByteAccess) (q : Page) → IsWhole s → page_of_access s access ≡ Some q → IsBlock s (address_of_access access) q
access_block s (ReadOf x) q w h = go (address_in s x) refl h
  where
    go : (spot : Spot) → address_in s x ≡ spot → page_read s spot ≡ Some q → IsBlock s x q
    go (Text i) e k = of_block s x q _ _ k refl (text_block s x i w e)
    go (Data i) e k = of_block s x q _ _ k refl (data_block s x i w e)
    go (Stack i) e k = of_block s x q _ _ k refl (stack_block s x i w e)
    go Below e k = absurd cc
    go Outside e k = absurd cc
access_block s (TestOf x) q w h = go (address_in s x) refl h
  where
    go : (spot : Spot) → address_in s x ≡ spot → page_tested s spot ≡ Some q → IsBlock s x q
    go (Text i) e k = absurd cc
    go (Data i) e k = of_block s x q _ _ k refl (data_block s x i w e)
    go (Stack i) e k = of_block s x q _ _ k refl (stack_block s x i w e)
    go Below e k = absurd cc
    go Outside e k = absurd cc

-- Each start has two blocks.

abbrev first_block : ℕ → ℕ
first_block start = start % 2 ^ 32 / 1024

abbrev second_block : ℕ → ℕ
second_block start = (start + 1023) % 2 ^ 32 / 1024

near_block : (start x : ℕ) → IsAt start 1023 x → x < 2 ^ 32 → (x / 1024 ≡ first_block start) ⊎ (x / 1024 ≡ second_block start)
near_block start x h low = elim (cases_eq (x / 1024) (first_block start)) [
  | inl same ↦ inl same
  | inr other ↦ inr (let k = h.1 in let e = h.2 in omega (arith, other))
]

abbrev pages_of : Space → List ℕ → List Page
pages_of s [] = []
pages_of s (start ∷ starts) = page_in s (first_block start) ∷ page_in s (second_block start) ∷ pages_of s starts

pages_count : (s : Space) (starts : List ℕ) → length (pages_of s starts) ≡ 2 * length starts
pages_count s [] = refl
pages_count s (start ∷ starts) = let n = pages_count s starts in omega arith

near_among : (s : Space) (starts : List ℕ) (x : ℕ) (q : Page) → IsNear starts x → IsBlock s x q → is_among q (pages_of s starts) ≡ true
near_among s [] x q h b = absurd h
near_among s (start ∷ starts) x q (inr h) b =
    among_later q (page_in s (first_block start)) (page_in s (second_block start) ∷ pages_of s starts)
    (among_later q (page_in s (second_block start)) (pages_of s starts) (near_among s starts x q h b))
near_among s (start ∷ starts) x q (inl h) b = elim (near_block start x h b.low) [
  | inl e ↦ among_is q (page_in s (first_block start)) (page_in s (second_block start) ∷ pages_of s starts) (b.page ∙ ap (page_in s) e)
  | inr e ↦ among_later q (page_in s (first_block start)) (page_in s (second_block start) ∷ pages_of s starts)
      (among_is q (page_in s (second_block start)) (pages_of s starts) (b.page ∙ ap (page_in s) e))
]

all_among : (s : Space) (starts : List ℕ) (list : List ByteAccess) (q : Page) → IsWhole s → AreNear starts list
    → is_among q (filter_map (page_of_access s) list) ≡ true → is_among q (pages_of s starts) ≡ true
all_among s starts [] q w h k = absurd cc
all_among s starts (access ∷ list) q w h k = go (λ l. all_among s starts list q w h.1 l) (page_of_access s access) refl k
  where
    here : (r : Page) → page_of_access s access ≡ Some r → (is_among q (filter_map (page_of_access s) list) ≡ true → is_among q (pages_of s starts) ≡ true) → (b : Bool) → same_page q r ≡ b
        → (b || is_among q (filter_map (page_of_access s) list)) ≡ true → is_among q (pages_of s starts) ≡ true
    here r e later true f l =
        near_among s starts (address_of_access access) q h.0 (subst (λ (p : Page). IsBlock s (address_of_access access) p) (sym (same_page_is q r f)) (access_block s access r w e))
    here r e later false f l = later l

    go : (is_among q (filter_map (page_of_access s) list) ≡ true → is_among q (pages_of s starts) ≡ true) → (o : Option Page) → page_of_access s access ≡ o
        → is_among q (cons_option o (filter_map (page_of_access s) list)) ≡ true → is_among q (pages_of s starts) ≡ true
    go later None e l = later l
    go later (Some r) e l = here r e later (same_page q r) refl l

-- accesses near so many starts are of twice as many pages at most
pub few_pages : (s : Space) (starts : List ℕ) (list : List ByteAccess) → IsWhole s → AreNear starts list
    → length (distinct (filter_map (page_of_access s) list)) ≤ 2 * length starts
few_pages s starts list w h =
    let few = few_distinct (filter_map (page_of_access s) list) (pages_of s starts) (λ q k. all_among s starts list q w h k) in
    let n = pages_count s starts in
    omega arith
