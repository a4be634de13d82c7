-- Holdings that give back pieces: what is left is apart still, and what each owner has left.
use Rattle.page_model.specs.Place.{Changing}
use Rattle.std.proofs.Common.{◌≡◌, ◌≢◌, ◌⊎◌, inl, inr, ℕ, zero, suc, ◌+◌, ◌*◌, ◌<◌, ◌≤◌, ◌==◌, max, Bool, true, false, cond, ◌||◌, List, [], ◌∷◌, ◌++◌, length, take, drop, map, nat_le, All, AllPairs, refl, sym, ap, ◌∙◌, subst, arith}
use Rattle.std.proofs.lemmas.Bool.{cases_eq, cases_lt, le-leb, false≢true}
use Rattle.std.proofs.lemmas.Bool.Decides.{nat_tests}
use Rattle.std.proofs.lemmas.List.{append-nil}
use Rattle.std.proofs.lemmas.List.Elements.{All-cons, All-head, All-tail}
use Rattle.swap_book.specs.Chunks.{chunk_start, chunks_holding, pieces, text_pieces}
use Rattle.swap_book.proofs.ChunkLaws.{lowest_fails}
use Rattle.swap_book.proofs.PieceLaws.{length-pieces, pieces_enough, pieces_front, pieces_none, text_pieces_whole}
use Rattle.swap_book.specs.declared.Owner.{Owner}
use Rattle.swap_book.specs.declared.Owner.TheVariants as owners
use Rattle.swap_book.specs.declared.Held.{Held}
use Rattle.swap_book.specs.Owners.{same_owner, u_pieces, pieces_of}
use Rattle.swap_book.specs.Holdings.{Holdings, lengths, kept}
use Rattle.swap_book.specs.Book.{IsPiece, IsApart}
use Rattle.swap_book.proofs.KeptLaws.{lengths-kept, of_owner-kept_other}
use Rattle.vm_facts.specs.declared.page.Page.TheVariants.{Data, Stack, Text}
use Rattle.flat_state.specs.declared.change.Change.{Change}
use Rattle.flat_state.specs.declared.change.Change.TheVariants.{Resize, Exec, End}
use Rattle.page_model.specs.Placement.{Placement, slots_of, sharers, image_of}
use Rattle.page_model.specs.Ownership.{OwnsBlocks, text_pieces_while, u_blocks}
use Rattle.kernel_model.specs.ChangeStep.{text_given_back, space_given_back, given_back_unless, holdings_after}

-- Pieces that are left are apart.

pub record AreApart (size : ℕ) (hs : Holdings) : Type 0 where
  pub pieces : All (IsPiece size) hs
  pub apart : AllPairs IsApart hs

kept_each : (P : Held → Type 0) (owner : Owner) (keep : ℕ) (hs : List Held) → All P hs → All P (kept owner keep hs)
unfolding kept
kept_each P owner zero [] a = a
kept_each P owner (suc n) [] a = a
kept_each P owner zero (h ∷ hs) a = go (same_owner h.owner owner) (kept_each P owner zero hs (All-tail P h hs a))
  where
    go : (b : Bool) → All P (kept owner zero hs) → All P (cond b (kept owner zero hs) (h ∷ kept owner zero hs))
    go true rest = rest
    go false rest = All-cons P h (kept owner zero hs) (All-head P h hs a) rest
kept_each P owner (suc n) (h ∷ hs) a =
    All-cons P h (kept owner (cond (same_owner h.owner owner) n (suc n)) hs) (All-head P h hs a) (kept_each P owner (cond (same_owner h.owner owner) n (suc n)) hs (All-tail P h hs a))

pairs_head : (h : Held) (hs : List Held) → AllPairs IsApart (h ∷ hs) → All (IsApart h) hs
pairs_head h hs a = λ k d l. a 0 (suc k) d (omega arith) (omega arith)

pairs_tail : (h : Held) (hs : List Held) → AllPairs IsApart (h ∷ hs) → AllPairs IsApart hs
pairs_tail h hs a = λ i j d o l. a (suc i) (suc j) d (omega arith) (omega arith)

pairs_cons : (h : Held) (hs : List Held) → All (IsApart h) hs → AllPairs IsApart hs → AllPairs IsApart (h ∷ hs)
pairs_cons h hs a p zero zero d o l = absurd (omega arith)
pairs_cons h hs a p zero (suc j) d o l = a j d (omega arith)
pairs_cons h hs a p (suc i) zero d o l = absurd (omega arith)
pairs_cons h hs a p (suc i) (suc j) d o l = p i j d (omega arith) (omega arith)

kept_pairs : (owner : Owner) (keep : ℕ) (hs : List Held) → AllPairs IsApart hs → AllPairs IsApart (kept owner keep hs)
unfolding kept
kept_pairs owner zero [] a = a
kept_pairs owner (suc n) [] a = a
kept_pairs owner zero (h ∷ hs) a = go (same_owner h.owner owner) (kept_pairs owner zero hs (pairs_tail h hs a))
  where
    go : (b : Bool) → AllPairs IsApart (kept owner zero hs) → AllPairs IsApart (cond b (kept owner zero hs) (h ∷ kept owner zero hs))
    go true rest = rest
    go false rest = pairs_cons h (kept owner zero hs) (kept_each (IsApart h) owner zero hs (pairs_head h hs a)) rest
kept_pairs owner (suc n) (h ∷ hs) a =
    let keep : ℕ = cond (same_owner h.owner owner) n (suc n) in
    pairs_cons h (kept owner keep hs) (kept_each (IsApart h) owner keep hs (pairs_head h hs a)) (kept_pairs owner keep hs (pairs_tail h hs a))

kept_apart : (size : ℕ) (owner : Owner) (keep : ℕ) (hs : Holdings) → AreApart size hs → AreApart size (kept owner keep hs)
kept_apart size owner keep hs a = record { pieces = kept_each (IsPiece size) owner keep hs a.pieces; apart = kept_pairs owner keep hs a.apart }

unless_apart : (size : ℕ) (hs : Holdings) (borrowed : Bool) (sid image left : ℕ) → AreApart size hs
    → AreApart size (given_back_unless borrowed hs sid image left)
unless_apart size hs true sid image left a = a
unless_apart size hs false sid image left a = go left
  where
    rest : AreApart size (kept (owners.Stack sid) 0 (kept (owners.Data sid) 0 hs))
    rest = kept_apart size (owners.Stack sid) 0 (kept (owners.Data sid) 0 hs) (kept_apart size (owners.Data sid) 0 hs a)

    go : (n : ℕ) → AreApart size (text_given_back n (kept (owners.Stack sid) 0 (kept (owners.Data sid) 0 hs)) image)
    go zero = kept_apart size (owners.Text image) 0 (kept (owners.Stack sid) 0 (kept (owners.Data sid) 0 hs)) rest
    go (suc n) = rest

pub after_apart : (size : ℕ) (c : Changing) (hs : Holdings) (p q : Placement) (change : Change) → AreApart size hs
    → AreApart size (holdings_after c hs p q change)
after_apart size c hs p q (Resize d s) a =
    kept_apart size (owners.Stack c.sid) (length (pieces (2 * s))) (kept (owners.Data c.sid) (length (pieces (2 * d))) hs) (kept_apart size (owners.Data c.sid) (length (pieces (2 * d))) hs a)
after_apart size c hs p q (Exec image top) a = unless_apart size hs c.borrowed c.sid (image_of p c.sid) (sharers q (image_of p c.sid)) a
after_apart size c hs p q (End status) a =
    kept_apart size (owners.U c.pid) 0 (given_back_unless c.borrowed hs c.sid (image_of p c.sid) (sharers q (image_of p c.sid)))
    (unless_apart size hs c.borrowed c.sid (image_of p c.sid) (sharers q (image_of p c.sid)) a)
after_apart size c hs p q _ a = a

-- Lengths.

differs : (a b : ℕ) → b ≢ a → (a == b) ≡ false
differs a b n = grind (arith, nat_tests)

take_none : (xs : List ℕ) → take 0 xs ≡ []
take_none [] = refl
take_none (x ∷ xs) = refl

pub own_left : (owner : Owner) (hs : Holdings) → lengths owner (kept owner 0 hs) ≡ []
own_left owner hs = lengths-kept owner 0 hs ∙ take_none (lengths owner hs)

pub other_left : (owner other : Owner) (keep : ℕ) (hs : Holdings) → same_owner owner other ≡ false → lengths other (kept owner keep hs) ≡ lengths other hs
other_left owner other keep hs n = ap (map (λ (h : Held). h.length)) (of_owner-kept_other owner other keep hs n)

-- more blocks have no fewer pieces
pub pieces_mono : (a b : ℕ) → a ≤ b → length (pieces a) ≤ length (pieces b)
unfolding chunks_holding
pieces_mono a b l = elim (cases_lt (length (pieces b)) (length (pieces a))) [
  | inl less ↦
      let e = length-pieces a in
      let m = pieces_enough b in
      let fails : nat_le a (chunk_start (length (pieces b))) ≡ false = lowest_fails (λ n. nat_le a (chunk_start n)) a (length (pieces b)) (subst (λ (n : ℕ). length (pieces b) < n) e less) in
      absurd (false≢true (sym fails ∙ le-leb a (chunk_start (length (pieces b))) (omega arith)))
  | inr more ↦ more
]

pub fewer_pieces : (a b : ℕ) → a ≤ b → take (length (pieces a)) (pieces b) ≡ pieces a
fewer_pieces a b l = sym (pieces_front a b (pieces_mono a b l))

-- What holdings have of each owner's pieces, u pages aside.

pub record Fits (p : Placement) (hs : Holdings) : Type 0 where
  pub of_data : (sid : ℕ) → lengths (owners.Data sid) hs ≡ pieces (2 * length (slots_of p (Data sid 0)))
  pub of_stack : (sid : ℕ) → lengths (owners.Stack sid) hs ≡ pieces (2 * length (slots_of p (Stack sid 0)))
  pub of_text : (image : ℕ) → lengths (owners.Text image) hs ≡ text_pieces_while (sharers p image) (2 * length (slots_of p (Text image 0)))

pub record FitsBoth (p q : Placement) (hs : Holdings) : Type 0 where
  pub of_data : (sid : ℕ) → lengths (owners.Data sid) hs ≡ pieces (2 * max (length (slots_of p (Data sid 0))) (length (slots_of q (Data sid 0))))
  pub of_stack : (sid : ℕ) → lengths (owners.Stack sid) hs ≡ pieces (2 * max (length (slots_of p (Stack sid 0))) (length (slots_of q (Stack sid 0))))
  pub of_text : (image : ℕ) → lengths (owners.Text image) hs ≡ text_pieces_while (sharers p image + sharers q image) (2 * length (slots_of p (Text image 0)))

-- a book, by what each owner has
pub while_of : (n blocks : ℕ) → (b : ℕ) × (text_pieces_while n blocks ≡ text_pieces b)
while_of zero blocks = (0, sym (text_pieces_whole 0))
while_of (suc n) blocks = (blocks, refl)

pub owns_from : (size : ℕ) (lives : ℕ → Bool) (p : Placement) (hs : Holdings) → AreApart size hs → Fits p hs
    → ((pid : ℕ) → lengths (owners.U pid) hs ≡ u_pieces (u_blocks (lives pid))) → OwnsBlocks size lives p hs
owns_from size lives p hs a f u = record {
  book = record { pieces = a.pieces; apart = a.apart; owners = of };
  data_held = f.of_data;
  stack_held = f.of_stack;
  text_held = f.of_text;
  u_held = u;
}
  where
    of : (owner : Owner) → (blocks : ℕ) × (lengths owner hs ≡ pieces_of owner blocks)
    of (owners.Data sid) = (2 * length (slots_of p (Data sid 0)), f.of_data sid)
    of (owners.Stack sid) = (2 * length (slots_of p (Stack sid 0)), f.of_stack sid)
    of (owners.U pid) = (u_blocks (lives pid), u pid)
    of (owners.Text image) = let w = while_of (sharers p image) (2 * length (slots_of p (Text image 0))) in (w.0, f.of_text image ∙ w.1)

-- Sizes from one placement to the next.

-- spaces stay or come
pub record Grows (p q : Placement) : Type 0 where
  pub of_data : (t : ℕ) → length (slots_of p (Data t 0)) ≤ length (slots_of q (Data t 0))
  pub of_stack : (t : ℕ) → length (slots_of p (Stack t 0)) ≤ length (slots_of q (Stack t 0))
  pub texts : (image : ℕ) → length (slots_of q (Text image 0)) ≡ length (slots_of p (Text image 0))
  pub sharing : (image : ℕ) → 0 < sharers p image → 0 < sharers q image

-- one space goes, and with it perhaps the last sharer of its image
pub record Loses (sid image : ℕ) (p q : Placement) : Type 0 where
  pub data_gone : length (slots_of q (Data sid 0)) ≡ 0
  pub stack_gone : length (slots_of q (Stack sid 0)) ≡ 0
  pub of_data : (t : ℕ) → t ≢ sid → length (slots_of p (Data t 0)) ≤ length (slots_of q (Data t 0))
  pub of_stack : (t : ℕ) → t ≢ sid → length (slots_of p (Stack t 0)) ≤ length (slots_of q (Stack t 0))
  pub texts : (i : ℕ) → length (slots_of q (Text i 0)) ≡ length (slots_of p (Text i 0))
  pub sharing : (i : ℕ) → i ≢ image → 0 < sharers p i → 0 < sharers q i

-- one space has other sizes, where it is there
pub record Resizes (sid d s : ℕ) (p q : Placement) : Type 0 where
  pub data_now : (length (slots_of q (Data sid 0)) ≡ d) ⊎ ((length (slots_of q (Data sid 0)) ≡ 0) × (length (slots_of p (Data sid 0)) ≡ 0))
  pub stack_now : (length (slots_of q (Stack sid 0)) ≡ s) ⊎ ((length (slots_of q (Stack sid 0)) ≡ 0) × (length (slots_of p (Stack sid 0)) ≡ 0))
  pub of_data : (t : ℕ) → t ≢ sid → length (slots_of q (Data t 0)) ≡ length (slots_of p (Data t 0))
  pub of_stack : (t : ℕ) → t ≢ sid → length (slots_of q (Stack t 0)) ≡ length (slots_of p (Stack t 0))
  pub texts : (i : ℕ) → length (slots_of q (Text i 0)) ≡ length (slots_of p (Text i 0))
  pub sharing : (i : ℕ) → sharers q i ≡ sharers p i

pieces_larger : (a b : ℕ) → a ≤ b → pieces (2 * max a b) ≡ pieces (2 * b)
pieces_larger a b l = let e : max a b ≡ b = omega arith in ap (λ (n : ℕ). pieces (2 * n)) e

while_some : (a b n m : ℕ) → (0 < a → 0 < b) → m ≡ n → text_pieces_while (a + b) n ≡ text_pieces_while b m
while_some zero b n m h e = let z : 0 + b ≡ b = omega arith in ap (λ (k : ℕ). text_pieces_while k n) z ∙ ap (text_pieces_while b) (sym e)
while_some (suc a) zero n m h e = absurd (let l = h (omega arith) in omega arith)
while_some (suc a) (suc b) n m h e = let z : suc a + suc b ≡ suc (a + suc b) = omega arith in ap (λ (k : ℕ). text_pieces_while k n) z ∙ ap text_pieces (sym e)

twice : (a b : ℕ) → a ≡ b → 2 * a ≡ 2 * b
twice a b e = ap (λ (n : ℕ). 2 * n) e

pub grows_fits : (p q : Placement) (hs : Holdings) → Grows p q → FitsBoth p q hs → Fits q hs
grows_fits p q hs g f = record {
  of_data = λ t. f.of_data t ∙ pieces_larger (length (slots_of p (Data t 0))) (length (slots_of q (Data t 0))) (g.of_data t);
  of_stack = λ t. f.of_stack t ∙ pieces_larger (length (slots_of p (Stack t 0))) (length (slots_of q (Stack t 0))) (g.of_stack t);
  of_text = λ i. f.of_text i ∙ while_some (sharers p i) (sharers q i) (2 * length (slots_of p (Text i 0))) (2 * length (slots_of q (Text i 0))) (g.sharing i)
      (twice (length (slots_of q (Text i 0))) (length (slots_of p (Text i 0))) (g.texts i));
}

none_for : (n : ℕ) → n ≡ 0 → [] ≡ pieces (2 * n)
none_for n e = sym pieces_none ∙ ap (λ (k : ℕ). pieces (2 * k)) (sym e)

pub loses_fits : (sid image : ℕ) (p q : Placement) (hs : Holdings) → Loses sid image p q → FitsBoth p q hs
    → Fits q (space_given_back hs sid image (sharers q image))
loses_fits sid image p q hs g f = record {
  of_data = λ t. before_text (owners.Data t) refl (sharers q image) ∙ other_left (owners.Stack sid) (owners.Data t) 0 (kept (owners.Data sid) 0 hs) refl ∙ elim (cases_eq t sid) [
    | inl e ↦ subst (λ (x : ℕ). lengths (owners.Data x) (kept (owners.Data sid) 0 hs) ≡ pieces (2 * length (slots_of q (Data x 0)))) (sym e)
        (own_left (owners.Data sid) hs ∙ none_for (length (slots_of q (Data sid 0))) g.data_gone)
    | inr n ↦ other_left (owners.Data sid) (owners.Data t) 0 hs (differs sid t n) ∙ f.of_data t ∙ pieces_larger (length (slots_of p (Data t 0))) (length (slots_of q (Data t 0))) (g.of_data t n)
  ];
  of_stack = λ t. before_text (owners.Stack t) refl (sharers q image) ∙ elim (cases_eq t sid) [
    | inl e ↦ subst (λ (x : ℕ). lengths (owners.Stack x) (kept (owners.Stack sid) 0 (kept (owners.Data sid) 0 hs)) ≡ pieces (2 * length (slots_of q (Stack x 0)))) (sym e)
        (own_left (owners.Stack sid) (kept (owners.Data sid) 0 hs) ∙ none_for (length (slots_of q (Stack sid 0))) g.stack_gone)
    | inr n ↦ other_left (owners.Stack sid) (owners.Stack t) 0 (kept (owners.Data sid) 0 hs) (differs sid t n) ∙ other_left (owners.Data sid) (owners.Stack t) 0 hs refl ∙ f.of_stack t
        ∙ pieces_larger (length (slots_of p (Stack t 0))) (length (slots_of q (Stack t 0))) (g.of_stack t n)
  ];
  of_text = λ i. elim (cases_eq i image) [
    | inl e ↦ subst (λ (x : ℕ). lengths (owners.Text x) (space_given_back hs sid image (sharers q image)) ≡ text_pieces_while (sharers q x) (2 * length (slots_of q (Text x 0)))) (sym e)
        (own (sharers q image) refl)
    | inr n ↦ text_other i n (sharers q image) ∙ others i ∙ f.of_text i
        ∙ while_some (sharers p i) (sharers q i) (2 * length (slots_of p (Text i 0))) (2 * length (slots_of q (Text i 0))) (g.sharing i n)
        (twice (length (slots_of q (Text i 0))) (length (slots_of p (Text i 0))) (g.texts i))
  ];
}
  where
    rest : Holdings
    rest = kept (owners.Stack sid) 0 (kept (owners.Data sid) 0 hs)

    before_text : (owner : Owner) → same_owner (owners.Text image) owner ≡ false → (n : ℕ) → lengths owner (text_given_back n rest image) ≡ lengths owner rest
    before_text owner d zero = other_left (owners.Text image) owner 0 rest d
    before_text owner d (suc n) = refl

    text_other : (i : ℕ) → i ≢ image → (n : ℕ) → lengths (owners.Text i) (text_given_back n rest image) ≡ lengths (owners.Text i) rest
    text_other i d n = before_text (owners.Text i) (differs image i d) n

    others : (i : ℕ) → lengths (owners.Text i) rest ≡ lengths (owners.Text i) hs
    others i = other_left (owners.Stack sid) (owners.Text i) 0 (kept (owners.Data sid) 0 hs) refl ∙ other_left (owners.Data sid) (owners.Text i) 0 hs refl

    own : (n : ℕ) → sharers q image ≡ n → lengths (owners.Text image) (text_given_back n rest image) ≡ text_pieces_while (sharers q image) (2 * length (slots_of q (Text image 0)))
    own zero e = own_left (owners.Text image) rest ∙ ap (λ (k : ℕ). text_pieces_while k (2 * length (slots_of q (Text image 0)))) (sym e)
    own (suc n) e = others image ∙ f.of_text image
        ∙ while_some (sharers p image) (sharers q image) (2 * length (slots_of p (Text image 0))) (2 * length (slots_of q (Text image 0))) (λ l. omega arith)
        (twice (length (slots_of q (Text image 0))) (length (slots_of p (Text image 0))) (g.texts image))

-- the pieces of the larger size, cut to those of the new one
cut_to : (a b n : ℕ) → (b ≡ n) ⊎ ((b ≡ 0) × (a ≡ 0)) → take (length (pieces (2 * n))) (pieces (2 * max a b)) ≡ pieces (2 * b)
cut_to a b n (inl e) = ap (λ (k : ℕ). take (length (pieces (2 * k))) (pieces (2 * max a b))) (sym e) ∙ fewer_pieces (2 * b) (2 * max a b) (omega arith)
cut_to a b n (inr z) =
    let e : 2 * max a b ≡ 0 = (let x = z.0 in let y = z.1 in omega arith) in
    ap (λ (k : ℕ). take (length (pieces (2 * n))) (pieces k)) e ∙ ap (take (length (pieces (2 * n)))) pieces_none ∙ take_nil (length (pieces (2 * n))) ∙ none_for b z.0
  where
    take_nil : (k : ℕ) → take {A = ℕ} k [] ≡ []
    take_nil zero = refl
    take_nil (suc k) = refl

pub resizes_fits : (sid d s : ℕ) (p q : Placement) (hs : Holdings) → Resizes sid d s p q → FitsBoth p q hs
    → Fits q (kept (owners.Stack sid) (length (pieces (2 * s))) (kept (owners.Data sid) (length (pieces (2 * d))) hs))
resizes_fits sid d s p q hs g f =
    let kd : ℕ = length (pieces (2 * d)) in
    let ks : ℕ = length (pieces (2 * s)) in
    record {
      of_data = λ t. other_left (owners.Stack sid) (owners.Data t) ks (kept (owners.Data sid) kd hs) refl ∙ elim (cases_eq t sid) [
        | inl e ↦ subst (λ (x : ℕ). lengths (owners.Data x) (kept (owners.Data sid) kd hs) ≡ pieces (2 * length (slots_of q (Data x 0)))) (sym e)
            (lengths-kept (owners.Data sid) kd hs ∙ ap (take kd) (f.of_data sid) ∙ cut_to (length (slots_of p (Data sid 0))) (length (slots_of q (Data sid 0))) d g.data_now)
        | inr n ↦ other_left (owners.Data sid) (owners.Data t) kd hs (differs sid t n) ∙ f.of_data t
            ∙ pieces_larger (length (slots_of p (Data t 0))) (length (slots_of q (Data t 0))) (let e = g.of_data t n in omega arith)
      ];
      of_stack = λ t. elim (cases_eq t sid) [
        | inl e ↦ subst (λ (x : ℕ). lengths (owners.Stack x) (kept (owners.Stack sid) ks (kept (owners.Data sid) kd hs)) ≡ pieces (2 * length (slots_of q (Stack x 0)))) (sym e)
            (lengths-kept (owners.Stack sid) ks (kept (owners.Data sid) kd hs) ∙ ap (take ks) (other_left (owners.Data sid) (owners.Stack sid) kd hs refl ∙ f.of_stack sid)
            ∙ cut_to (length (slots_of p (Stack sid 0))) (length (slots_of q (Stack sid 0))) s g.stack_now)
        | inr n ↦ other_left (owners.Stack sid) (owners.Stack t) ks (kept (owners.Data sid) kd hs) (differs sid t n) ∙ other_left (owners.Data sid) (owners.Stack t) kd hs refl ∙ f.of_stack t
            ∙ pieces_larger (length (slots_of p (Stack t 0))) (length (slots_of q (Stack t 0))) (let e = g.of_stack t n in omega arith)
      ];
      of_text = λ i. other_left (owners.Stack sid) (owners.Text i) ks (kept (owners.Data sid) kd hs) refl ∙ other_left (owners.Data sid) (owners.Text i) kd hs refl ∙ f.of_text i
          ∙ while_some (sharers p i) (sharers q i) (2 * length (slots_of p (Text i 0))) (2 * length (slots_of q (Text i 0))) (λ l. let e = g.sharing i in omega arith)
          (twice (length (slots_of q (Text i 0))) (length (slots_of p (Text i 0))) (g.texts i));
    }

pub less_u : (p : Placement) (hs : Holdings) (pid : ℕ) → Fits p hs → Fits p (kept (owners.U pid) 0 hs)
less_u p hs pid f = record {
  of_data = λ t. other_left (owners.U pid) (owners.Data t) 0 hs refl ∙ f.of_data t;
  of_stack = λ t. other_left (owners.U pid) (owners.Stack t) 0 hs refl ∙ f.of_stack t;
  of_text = λ i. other_left (owners.U pid) (owners.Text i) 0 hs refl ∙ f.of_text i;
}

-- u pages

pub unless_u : (hs : Holdings) (borrowed : Bool) (sid image left n : ℕ)
    → lengths (owners.U n) (given_back_unless borrowed hs sid image left) ≡ lengths (owners.U n) hs
unless_u hs true sid image left n = refl
unless_u hs false sid image left n = go left ∙ other_left (owners.Stack sid) (owners.U n) 0 (kept (owners.Data sid) 0 hs) refl ∙ other_left (owners.Data sid) (owners.U n) 0 hs refl
  where
    rest : Holdings
    rest = kept (owners.Stack sid) 0 (kept (owners.Data sid) 0 hs)

    go : (k : ℕ) → lengths (owners.U n) (text_given_back k rest image) ≡ lengths (owners.U n) rest
    go zero = other_left (owners.Text image) (owners.U n) 0 rest refl
    go (suc k) = refl

pub u_some : (a b : Bool) → (a ≡ true → b ≡ true) → u_pieces (u_blocks (a || b)) ≡ u_pieces (u_blocks b)
u_some true b h = ap (λ (x : Bool). u_pieces (u_blocks x)) (sym (h refl))
u_some false b h = refl

-- Pieces that were taken stand after those that were held.

split : (n : ℕ) (xs : List ℕ) → take n xs ++ drop n xs ≡ xs
split zero [] = refl
split zero (x ∷ xs) = refl
split (suc n) [] = refl
split (suc n) (x ∷ xs) = ap (λ (ys : List ℕ). x ∷ ys) (split n xs)

pub drop_past : (n : ℕ) (xs : List ℕ) → length xs ≤ n → drop n xs ≡ []
drop_past zero [] l = refl
drop_past zero (x ∷ xs) l = absurd (omega arith)
drop_past (suc n) [] l = refl
drop_past (suc n) (x ∷ xs) l = drop_past n xs (omega arith)

pub both_pieces : (a b : ℕ) → pieces (2 * a) ++ drop (length (pieces (2 * a))) (pieces (2 * b)) ≡ pieces (2 * max a b)
both_pieces a b = elim (cases_lt a b) [
  | inl l ↦
      ap (λ (xs : List ℕ). xs ++ drop (length (pieces (2 * a))) (pieces (2 * b))) (sym (fewer_pieces (2 * a) (2 * b) (omega arith))) ∙
      split (length (pieces (2 * a))) (pieces (2 * b)) ∙
      sym (pieces_larger a b (omega arith))
  | inr l ↦
      ap (λ (xs : List ℕ). pieces (2 * a) ++ xs) (drop_past (length (pieces (2 * a))) (pieces (2 * b)) (pieces_mono (2 * b) (2 * a) (omega arith))) ∙
      append-nil (pieces (2 * a)) ∙
      ap (λ (n : ℕ). pieces (2 * n)) (let e : a ≡ max a b = omega arith in e)
]

pub both_while : (a b n m : ℕ) → m ≡ n → text_pieces_while a n ++ drop (length (text_pieces_while a n)) (text_pieces_while b m) ≡ text_pieces_while (a + b) n
both_while zero b n m e = whole (text_pieces_while b m) ∙ ap (text_pieces_while b) e ∙ ap (λ (k : ℕ). text_pieces_while k n) (let z : b ≡ 0 + b = omega arith in z)
  where
    whole : (xs : List ℕ) → drop 0 xs ≡ xs
    whole [] = refl
    whole (x ∷ xs) = refl
both_while (suc a) zero n m e = ap (λ (xs : List ℕ). text_pieces n ++ xs) (drop_past (length (text_pieces n)) [] (omega arith)) ∙ append-nil (text_pieces n)
    ∙ ap (λ (k : ℕ). text_pieces_while k n) (let z : suc a ≡ suc a + 0 = omega arith in z)
both_while (suc a) (suc b) n m e = ap (λ (k : ℕ). text_pieces n ++ drop (length (text_pieces n)) (text_pieces k)) e
    ∙ ap (λ (xs : List ℕ). text_pieces n ++ xs) (drop_past (length (text_pieces n)) (text_pieces n) (omega arith)) ∙ append-nil (text_pieces n)
    ∙ sym (ap (λ (k : ℕ). text_pieces_while k n) (let z : suc a + suc b ≡ suc (a + suc b) = omega arith in z))

pub both_u : (a b : Bool) → u_pieces (u_blocks a) ++ drop (length (u_pieces (u_blocks a))) (u_pieces (u_blocks b)) ≡ u_pieces (u_blocks (a || b))
both_u true true = refl
both_u true false = refl
both_u false true = refl
both_u false false = refl
