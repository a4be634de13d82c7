-- Once the stack has grown for an instruction, it touches what it touched and at least one page more.
use Rattle.std.proofs.Common.{◌≡◌, ℕ, ◌+◌, ◌-◌, ◌*◌, ◌/◌, ◌<◌, ◌≤◌, ◌==◌, ◌&&◌, nat_lt, nat_le, not, cond, Bool, true, false, List, [], ◌∷◌, ◌++◌, length, replicate, filter, filter_map, Option, Some, None, Err, refl, sym, ap, ◌∙◌, subst, arith}
use Rattle.std.proofs.lemmas.Bool.Decides.{nat_tests}
use Rattle.std.proofs.lemmas.List.{append_assoc, append-nil, get_or_append_left, take_all}
use Rattle.std.specs.Prelude.{slice_index}
use Rattle.std.specs.List.{cons_option}
use Rattle.run_laws.proofs.Touching.{tested_read}
use Rattle.flat_state.specs.Space.{Space, stack_top, stack_reach, stack_index, spot_by, spot_at, address_in, byte_at, may_write_at, answers_of}
use Rattle.vm_facts.specs.declared.memory.ByteRead.{ByteRead}
use Rattle.vm_facts.specs.declared.memory.ByteRead.TheVariants as bytes
use Rattle.vm_facts.specs.declared.memory.MayWrite.{MayWrite}
use Rattle.vm_facts.specs.declared.memory.MayWrite.TheVariants as tests
use Rattle.vm_facts.specs.declared.page.Page.{Page}
use Rattle.vm_facts.specs.declared.page.Page.TheVariants.{Data, Stack, Text}
use Rattle.user_vax.specs.Program.{Program, Reads, Tests, ByteAccess, ReadOf, TestOf, run, after_read, after_test, accesses, rest_of_read, rest_of_test}
use Rattle.user_vax.specs.declared.refused.Refused.TheVariants.{Below}
use Rattle.flat_state.specs.declared.spot.Spot.{Spot}
use Rattle.flat_state.specs.declared.spot.Spot.TheVariants as spots
use Rattle.flat_state.specs.Change.{resized_bytes, resized}
use Rattle.flat_state.specs.PageNames.{same_page}
use Rattle.flat_state.specs.Writes.{IsWithin}
use Rattle.flat_state.proofs.SpaceLaws.{IsPaged, spot_within, length-resized_bytes}
use Rattle.flat_model.specs.Touched.{page_read, page_tested, page_of_access, distinct}
use Rattle.economy_laws.specs.Stretch.{Extends}

-- Lists in which each page stands once.

pub filter_both : (test : Page → Bool) (xs ys : List Page) → filter test (xs ++ ys) ≡ filter test xs ++ filter test ys
filter_both test [] ys = refl
filter_both test (x ∷ xs) ys = go (test x) (filter_both test xs ys)
  where
    go : (b : Bool) → filter test (xs ++ ys) ≡ filter test xs ++ filter test ys
        → cond b (x ∷ filter test (xs ++ ys)) (filter test (xs ++ ys)) ≡ cond b (x ∷ filter test xs) (filter test xs) ++ filter test ys
    go true e = ap (λ (l : List Page). x ∷ l) e
    go false e = e

-- no page of the list is this one
abbrev pub NotSeen : List Page → Page → Type 0
NotSeen [] n = Unit {0}
NotSeen (x ∷ xs) n = (same_page x n ≡ false) × NotSeen xs n

pub distinct_more : (xs zs : List Page) (n : Page) → NotSeen xs n → (more : List Page) × (distinct (xs ++ n ∷ zs) ≡ distinct xs ++ n ∷ more)
unfolding distinct
distinct_more [] zs n h = (filter (λ other. not (same_page n other)) (distinct zs), refl)
distinct_more (x ∷ xs) zs n h =
    let k = distinct_more xs zs n h.1 in (
      filter (λ other. not (same_page x other)) k.0,
      ap (λ (l : List Page). x ∷ filter (λ other. not (same_page x other)) l) k.1
          ∙ ap (λ (l : List Page). x ∷ l) (filter_both (λ other. not (same_page x other)) (distinct xs) (n ∷ k.0))
          ∙ ap (λ (b : Bool).
          x ∷ (filter (λ other. not (same_page x other)) (distinct xs) ++ cond (not b) (n ∷ filter (λ other. not (same_page x other)) k.0) (filter (λ other. not (same_page x other)) k.0))) h.0,
    )

-- A space that has grown.

pub record Bigger (s : Space) (d t a : ℕ) : Type 0 where
  pub paged : IsPaged s
  pub data_pages : length s.data_bytes ≡ 1024 * d
  pub stack_pages : length s.stack_bytes ≤ 1024 * t
  pub room : a + length s.stack_bytes + 1 ≤ stack_top
  pub reach : stack_top ≤ a + 1024 * t

abbrev pub Found : Spot → Type 0
Found spots.Below = ⊥
Found spots.Outside = ⊥
Found _ = Unit {0}

spot_more : (a b l m x : ℕ) (spot : Spot) → l ≤ m → spot_at a b l x ≡ spot → Found spot → spot_at a b m x ≡ spot
unfolding spot_at
spot_more a b l m x spot le e f = go (nat_lt x a) (nat_lt x (a + b)) (nat_le (stack_top - l) x && nat_lt x stack_top) (nat_le (stack_top - stack_reach) x && nat_lt x stack_top) refl e
  where
    wider : (nat_le (stack_top - l) x && nat_lt x stack_top) ≡ true → (nat_le (stack_top - m) x && nat_lt x stack_top) ≡ true
    wider h = grind (arith, nat_tests)

    go : (p q z w : Bool) → (nat_le (stack_top - l) x && nat_lt x stack_top) ≡ z → spot_by p q z w a x ≡ spot → spot_by p q (nat_le (stack_top - m) x && nat_lt x stack_top) w a x ≡ spot
    go true q z w h k = k
    go false true z w h k = k
    go false false true w h k = ap (λ (y : Bool). spot_by false false y w a x) (wider h) ∙ k
    go false false false true h k = absurd (subst Found (sym k) f)
    go false false false false h k = absurd (subst Found (sym k) f)

spot_kept : (s : Space) (d t a x : ℕ) (spot : Spot) → Bigger s d t a → address_in s x ≡ spot → Found spot → address_in (resized s d t) x ≡ spot
spot_kept s d t a x spot b e f =
    ap (λ (n : ℕ). spot_at (length s.text_bytes) n (length (resized_bytes t s.stack_bytes)) x) (length-resized_bytes d s.data_bytes ∙ sym b.data_pages)
    ∙ spot_more (length s.text_bytes) (length s.data_bytes) (length s.stack_bytes) (length (resized_bytes t s.stack_bytes)) x spot
    (let k = length-resized_bytes t s.stack_bytes in let l = b.stack_pages in omega arith) e f

bytes_kept : (m i : ℕ) (xs : List ℕ) → length xs ≤ 1024 * m → i < length xs → slice_index (resized_bytes m xs) i ≡ slice_index xs i
bytes_kept m i xs l k =
    ap (λ (ys : List ℕ). slice_index (ys ++ replicate (1024 * m - length xs) 0) i) (take_all (1024 * m) xs l)
    ∙ get_or_append_left xs (replicate (1024 * m - length xs) 0) 0 i k

byte_kept : (s : Space) (d t a : ℕ) (spot : Spot) → Bigger s d t a → Found spot → IsWithin s spot → byte_at (resized s d t) spot ≡ byte_at s spot
byte_kept s d t a (spots.Text i) b f w = refl
byte_kept s d t a (spots.Data i) b f w = ap (λ (n : ℕ). Rattle.vm_facts.specs.declared.memory.ByteRead.TheVariants.Is n) (bytes_kept d i s.data_bytes (let k = b.data_pages in omega arith) w)
byte_kept s d t a (spots.Stack i) b f w = ap (λ (n : ℕ). Rattle.vm_facts.specs.declared.memory.ByteRead.TheVariants.Is n) (bytes_kept t i s.stack_bytes b.stack_pages w)
byte_kept s d t a _ b f w = absurd f

-- the page of the address at which it grew
pub grown_page : Space → ℕ → Page
grown_page s a = Stack s.sid (stack_index a / 1024)

spot_grown : (s : Space) (d t a : ℕ) → Bigger s d t a → address_in s a ≡ spots.Below → address_in (resized s d t) a ≡ spots.Stack (stack_index a)
unfolding spot_at
spot_grown s d t a b e =
    ap (λ (n : ℕ). spot_at (length s.text_bytes) n (length (resized_bytes t s.stack_bytes)) a) (length-resized_bytes d s.data_bytes ∙ sym b.data_pages)
    ∙ go (nat_lt a (length s.text_bytes)) (nat_lt a (length s.text_bytes + length s.data_bytes)) (nat_le (stack_top - length s.stack_bytes) a && nat_lt a stack_top)
    (nat_le (stack_top - stack_reach) a && nat_lt a stack_top) e
  where
    in_stack : (n : ℕ) → n ≡ 1024 * t → stack_top ≤ a + 1024 * t → a + length s.stack_bytes + 1 ≤ stack_top → (nat_le (stack_top - n) a && nat_lt a stack_top) ≡ true
    in_stack n h k l = grind (arith, nat_tests)

    now : (nat_le (stack_top - length (resized_bytes t s.stack_bytes)) a && nat_lt a stack_top) ≡ true
    now = in_stack (length (resized_bytes t s.stack_bytes)) (length-resized_bytes t s.stack_bytes) b.reach b.room

    go : (p q z w : Bool) → spot_by p q z w (length s.text_bytes) a ≡ spots.Below
        → spot_by p q (nat_le (stack_top - length (resized_bytes t s.stack_bytes)) a && nat_lt a stack_top) w (length s.text_bytes) a ≡ spots.Stack (stack_index a)
    go true q z w k = absurd cc
    go false true z w k = absurd cc
    go false false true w k = absurd cc
    go false false false w k = ap (λ (y : Bool). spot_by false false y w (length s.text_bytes) a) now

-- no page of a byte that was there is the new one
not_grown : (s : Space) (d t a : ℕ) (spot : Spot) (q : Page) → Bigger s d t a → IsWithin s spot → page_read s spot ≡ Some q
    → same_page q (grown_page s a) ≡ false
unfolding grown_page
not_grown s d t a (spots.Text i) q b w e = ap (λ (x : Page). same_page x (grown_page s a)) (let k : q ≡ Text s.image (i / 1024) = cc in k)
not_grown s d t a (spots.Data i) q b w e = ap (λ (x : Page). same_page x (grown_page s a)) (let k : q ≡ Data s.sid (i / 1024) = cc in k)
not_grown s d t a (spots.Stack i) q b w e =
    let apart : (x y : ℕ) → x < y → ((s.sid == s.sid) && (x == y)) ≡ false = λ x y l. grind (arith, nat_tests) in
    ap (λ (x : Page). same_page x (grown_page s a)) (let k : q ≡ Stack s.sid (i / 1024) = cc in k) ∙ apart (i / 1024) (stack_index a / 1024) (let k = b.room in let l = b.paged in omega arith)
not_grown s d t a _ q b w e = absurd cc

-- An instruction that found no stack at an address.

abbrev Kept : Space → ℕ → ℕ → ℕ → ByteAccess → Type 0
Kept s d t a y = (page_of_access (resized s d t) y ≡ page_of_access s y) × ((q : Page) → page_of_access s y ≡ Some q → same_page q (grown_page s a) ≡ false)

abbrev AllKept : Space → ℕ → ℕ → ℕ → List ByteAccess → Type 0
AllKept s d t a [] = Unit {0}
AllKept s d t a (y ∷ ys) = Kept s d t a y × AllKept s d t a ys

-- its accesses: those that are answered, and the one at the address; after growth these and others
pub record Reached (X : Type 0) (s : Space) (d t a : ℕ) (p : Program X) : Type 0 where
  pub before : List ByteAccess
  pub last : ByteAccess
  pub rest : List ByteAccess
  pub old : accesses (answers_of s) p ≡ before ++ last ∷ []
  pub new : accesses (answers_of (resized s d t)) p ≡ before ++ last ∷ rest
  pub kept : AllKept s d t a before
  pub none : page_of_access s last ≡ None
  pub some : page_of_access (resized s d t) last ≡ Some (grown_page s a)

read_page : (s : Space) (d t : ℕ) (spot : Spot) → page_read (resized s d t) spot ≡ page_read s spot
read_page s d t (spots.Text i) = refl
read_page s d t _ = refl

test_page : (s : Space) (d t : ℕ) (spot : Spot) → page_tested (resized s d t) spot ≡ page_tested s spot
test_page s d t (spots.Text i) = refl
test_page s d t _ = refl

read_kept : (s : Space) (d t a b : ℕ) (spot : Spot) → Bigger s d t a → address_in s b ≡ spot → Found spot → Kept s d t a (ReadOf b)
read_kept s d t a b spot g e f = (
  ap (page_read (resized s d t)) (spot_kept s d t a b spot g e f) ∙ read_page s d t spot ∙ sym (ap (page_read s) e),
  (λ q h. not_grown s d t a spot q g (spot_within s b spot g.paged e) (sym (ap (page_read s) e) ∙ h)),
)

test_kept : (s : Space) (d t a b : ℕ) (spot : Spot) → Bigger s d t a → address_in s b ≡ spot → Found spot → Kept s d t a (TestOf b)
test_kept s d t a b spot g e f = (
  ap (page_tested (resized s d t)) (spot_kept s d t a b spot g e f) ∙ test_page s d t spot ∙ sym (ap (page_tested s) e),
  (λ q h. not_grown s d t a spot q g (spot_within s b spot g.paged e) (tested_read s spot q (sym (ap (page_tested s) e) ∙ h))),
)

read_on : (X : Type 0) (s : Space) (d t a b : ℕ) (next : ℕ → Program X) (spot : Spot) (v : ℕ) → Bigger s d t a → address_in s b ≡ spot → Found spot
    → byte_at s spot ≡ bytes.Is v
    → Reached X s d t a (next v) → Reached X s d t a (Reads b next)
read_on X s d t a b next spot v g e f w k = record {
  before = ReadOf b ∷ k.before;
  last = k.last;
  rest = k.rest;
  old = ap (λ (r : ByteRead). ReadOf b ∷ rest_of_read r (λ byte. accesses (answers_of s) (next byte))) (ap (byte_at s) e ∙ w) ∙ ap (λ (l : List ByteAccess). ReadOf b ∷ l) k.old;
  new = ap (λ (r : ByteRead). ReadOf b ∷ rest_of_read r (λ byte. accesses (answers_of (resized s d t)) (next byte)))
      (ap (byte_at (resized s d t)) (spot_kept s d t a b spot g e f) ∙ byte_kept s d t a spot g f (spot_within s b spot g.paged e) ∙ w) ∙ ap (λ (l : List ByteAccess). ReadOf b ∷ l) k.new;
  kept = (read_kept s d t a b spot g e f, k.kept);
  none = k.none;
  some = k.some;
}

test_on : (X : Type 0) (s : Space) (d t a b : ℕ) (next : Program X) (spot : Spot) → Bigger s d t a → address_in s b ≡ spot → Found spot
    → may_write_at spot ≡ tests.May → Reached X s d t a next → Reached X s d t a (Tests b next)
test_on X s d t a b next spot g e f w k = record {
  before = TestOf b ∷ k.before;
  last = k.last;
  rest = k.rest;
  old = ap (λ (r : MayWrite). TestOf b ∷ rest_of_test r (accesses (answers_of s) next)) (ap may_write_at e ∙ w) ∙ ap (λ (l : List ByteAccess). TestOf b ∷ l) k.old;
  new = ap (λ (r : MayWrite). TestOf b ∷ rest_of_test r (accesses (answers_of (resized s d t)) next)) (ap may_write_at (spot_kept s d t a b spot g e f) ∙ w)
      ∙ ap (λ (l : List ByteAccess). TestOf b ∷ l) k.new;
  kept = (test_kept s d t a b spot g e f, k.kept);
  none = k.none;
  some = k.some;
}

read_ends : (X : Type 0) (s : Space) (d t a : ℕ) (next : ℕ → Program X) → Bigger s d t a → address_in s a ≡ spots.Below → Reached X s d t a (Reads a next)
unfolding grown_page
read_ends X s d t a next g e = record {
  before = [];
  last = ReadOf a;
  rest = rest_of_read (byte_at (resized s d t) (address_in (resized s d t) a)) (λ byte. accesses (answers_of (resized s d t)) (next byte));
  old = ap (λ (spot : Spot). ReadOf a ∷ rest_of_read (byte_at s spot) (λ byte. accesses (answers_of s) (next byte))) e;
  new = refl;
  kept = tt;
  none = ap (page_read s) e;
  some = ap (page_read (resized s d t)) (spot_grown s d t a g e);
}

test_ends : (X : Type 0) (s : Space) (d t a : ℕ) (next : Program X) → Bigger s d t a → address_in s a ≡ spots.Below → Reached X s d t a (Tests a next)
unfolding grown_page
test_ends X s d t a next g e = record {
  before = [];
  last = TestOf a;
  rest = rest_of_test (may_write_at (address_in (resized s d t) a)) (accesses (answers_of (resized s d t)) next);
  old = ap (λ (spot : Spot). TestOf a ∷ rest_of_test (may_write_at spot) (accesses (answers_of s) next)) e;
  new = refl;
  kept = tt;
  none = ap (page_tested s) e;
  some = ap (page_tested (resized s d t)) (spot_grown s d t a g e);
}

pub reached : (X : Type 0) (s : Space) (d t a : ℕ) (p : Program X) → Bigger s d t a → run (answers_of s) p ≡ Err (Below a) → Reached X s d t a p
reached X s d t a (Reads b next) g h = go (address_in s b) refl (λ v k. reached X s d t a (next v) g k) h
  where
    go : (spot : Spot) → address_in s b ≡ spot → ((v : ℕ) → run (answers_of s) (next v) ≡ Err (Below a) → Reached X s d t a (next v))
        → after_read (byte_at s spot) b (λ byte. run (answers_of s) (next byte)) ≡ Err (Below a) → Reached X s d t a (Reads b next)
    go (spots.Text i) e more k = read_on X s d t a b next (spots.Text i) (slice_index s.text_bytes i) g e tt refl (more (slice_index s.text_bytes i) k)
    go (spots.Data i) e more k = read_on X s d t a b next (spots.Data i) (slice_index s.data_bytes i) g e tt refl (more (slice_index s.data_bytes i) k)
    go (spots.Stack i) e more k = read_on X s d t a b next (spots.Stack i) (slice_index s.stack_bytes i) g e tt refl (more (slice_index s.stack_bytes i) k)
    go spots.Below e more k = let z : b ≡ a = cc in subst (λ (x : ℕ). Reached X s d t a (Reads x next)) (sym z) (read_ends X s d t a next g (subst (λ (x : ℕ). address_in s x ≡ spots.Below) z e))
    go spots.Outside e more k = absurd cc
reached X s d t a (Tests b next) g h = go (address_in s b) refl (λ k. reached X s d t a next g k) h
  where
    go : (spot : Spot) → address_in s b ≡ spot → (run (answers_of s) next ≡ Err (Below a) → Reached X s d t a next) → after_test (may_write_at spot) b (run (answers_of s) next) ≡ Err (Below a)
        → Reached X s d t a (Tests b next)
    go (spots.Text i) e more k = absurd cc
    go (spots.Data i) e more k = test_on X s d t a b next (spots.Data i) g e tt refl (more k)
    go (spots.Stack i) e more k = test_on X s d t a b next (spots.Stack i) g e tt refl (more k)
    go spots.Below e more k = let z : b ≡ a = cc in subst (λ (x : ℕ). Reached X s d t a (Tests x next)) (sym z) (test_ends X s d t a next g (subst (λ (x : ℕ). address_in s x ≡ spots.Below) z e))
    go spots.Outside e more k = absurd cc
reached X s d t a _ g h = absurd cc

-- Its pages.

cons_both : (o : Option Page) (xs ys : List Page) → cons_option o (xs ++ ys) ≡ cons_option o xs ++ ys
cons_both None xs ys = refl
cons_both (Some x) xs ys = refl

map_both : (f : ByteAccess → Option Page) (xs ys : List ByteAccess) → filter_map f (xs ++ ys) ≡ filter_map f xs ++ filter_map f ys
map_both f [] ys = refl
map_both f (x ∷ xs) ys = ap (cons_option (f x)) (map_both f xs ys) ∙ cons_both (f x) (filter_map f xs) (filter_map f ys)

pub kept_pages : (s : Space) (d t a : ℕ) (ys : List ByteAccess) → AllKept s d t a ys
    → filter_map (page_of_access (resized s d t)) ys ≡ filter_map (page_of_access s) ys
kept_pages s d t a [] k = refl
kept_pages s d t a (y ∷ ys) k = ap (λ (o : Option Page). cons_option o (filter_map (page_of_access (resized s d t)) ys)) k.0.0 ∙ ap (cons_option (page_of_access s y)) (kept_pages s d t a ys k.1)

pub kept_unseen : (s : Space) (d t a : ℕ) (ys : List ByteAccess) → AllKept s d t a ys → NotSeen (filter_map (page_of_access s) ys) (grown_page s a)
kept_unseen s d t a [] k = tt
kept_unseen s d t a (y ∷ ys) k = go (page_of_access s y) refl (kept_unseen s d t a ys k.1)
  where
    go : (o : Option Page) → page_of_access s y ≡ o → NotSeen (filter_map (page_of_access s) ys) (grown_page s a) → NotSeen (cons_option o (filter_map (page_of_access s) ys)) (grown_page s a)
    go None e n = n
    go (Some q) e n = (k.0.1 q e, n)

-- the pages of these accesses, before and after growth
pub pages_extend : (X : Type 0) (s : Space) (d t a : ℕ) (p : Program X) (more : List ByteAccess) → Reached X s d t a p
    → Extends (distinct (filter_map (page_of_access s) (accesses (answers_of s) p)))
    (distinct (filter_map (page_of_access (resized s d t)) (accesses (answers_of (resized s d t)) p ++ more)))
pages_extend X s d t a p more r =
    let xs : List Page = filter_map (page_of_access s) r.before in
    let old : filter_map (page_of_access s) (accesses (answers_of s) p) ≡ filter_map (page_of_access s) r.before =
    ap (filter_map (page_of_access s)) r.old ∙ map_both (page_of_access s) r.before (r.last ∷ []) ∙ ap (λ (o : Option Page). filter_map (page_of_access s) r.before ++ cons_option o []) r.none
    ∙ append-nil (filter_map (page_of_access s) r.before) in
    let new : filter_map (page_of_access (resized s d t)) (accesses (answers_of (resized s d t)) p ++ more)
    ≡ filter_map (page_of_access s) r.before ++ grown_page s a ∷ filter_map (page_of_access (resized s d t)) (r.rest ++ more) =
    ap (λ (l : List ByteAccess). filter_map (page_of_access (resized s d t)) (l ++ more)) r.new
    ∙ ap (filter_map (page_of_access (resized s d t))) (append_assoc r.before (r.last ∷ r.rest) more)
    ∙ map_both (page_of_access (resized s d t)) r.before (r.last ∷ r.rest ++ more)
    ∙ ap (λ (l : List Page). l ++ filter_map (page_of_access (resized s d t)) (r.last ∷ r.rest ++ more)) (kept_pages s d t a r.before r.kept)
    ∙ ap (λ (o : Option Page). filter_map (page_of_access s) r.before ++ cons_option o (filter_map (page_of_access (resized s d t)) (r.rest ++ more))) r.some in
    let k = distinct_more (filter_map (page_of_access s) r.before) (filter_map (page_of_access (resized s d t)) (r.rest ++ more)) (grown_page s a) (kept_unseen s d t a r.before r.kept) in
    record {
      next = grown_page s a;
      more = k.0;
      is = ap distinct new ∙ k.1 ∙ ap (λ (l : List Page). distinct l ++ grown_page s a ∷ k.0) (sym old);
    }
