-- Once the pieces of the first processes have found their places, the start is sound.
use Rattle.std.proofs.Common.{◌≡◌, ◌≢◌, ◌⊎◌, inl, inr, ℕ, zero, suc, ◌+◌, ◌*◌, ◌<◌, ◌≤◌, ◌==◌, Bool, true, false, cond, List, [], ◌∷◌, ◌++◌, length, Some, Ok, refl, sym, ap, ap₂, ◌∙◌, subst, arith}
use Rattle.std.proofs.lemmas.Bool.Decides.{nat_tests}
use Rattle.std.proofs.lemmas.List.{append-nil}
use Rattle.std.proofs.lemmas.Bool.{eqb-true, ne_eqb}
use Rattle.vm_facts.specs.declared.page.Page.TheVariants.{Data, Stack, Text}
use Rattle.aout_image.specs.declared.Image.{Image}
use Rattle.aout_image.specs.Image.{image_data_pages}
use Rattle.swap_book.specs.Chunks.{pieces, text_pieces}
use Rattle.swap_book.proofs.PieceLaws.{pieces_none}
use Rattle.swap_book.specs.declared.Owner.{Owner}
use Rattle.swap_book.specs.declared.Owner.TheVariants as owners
use Rattle.swap_book.specs.Owners.{u_pieces}
use Rattle.swap_book.specs.Holdings.{Holdings}
use Rattle.swap_book.specs.Placing.{Wanted, wanted, place_all}
use Rattle.swap_book.proofs.OwnerLaws.{pieces_whole}
use Rattle.page_model.specs.Pages.{numbered, data_in, stack_in}
use Rattle.vm_facts.specs.Lists.{times}
use Rattle.page_model.specs.Placement.{Placement, Starting, space_number, slots_of, sharers, sharers_in, spaces_from, start_placement}
use Rattle.page_model.specs.Ownership.{OneOwner, text_pieces_while, u_blocks}
use Rattle.kernel_model.specs.Taken.{wanted_lengths}
use Rattle.kernel_model.specs.Asks.{text_asked, start_asks, is_started}
use Rattle.vm_facts.proofs.Lists.{times_head}
use Rattle.page_laws.proofs.Bytes.Spaces.{unfilled_length}
use Rattle.page_laws.proofs.Blocks.Aside.{one_owner}
use Rattle.page_laws.proofs.Starts.{start_owner, start_aside}
use Rattle.kernel_laws.proofs.Pieces.GivenBack.{owns_from}
use Rattle.kernel_laws.proofs.Pieces.Found.{AllWhole, found_apart, found_lengths, wanted_whole, whole_from, even_text}
use Rattle.kernel_laws.proofs.Pieces.Wanted.{lengths_both, lengths_own, lengths_other, text_none}

apart : (a b : ℕ) → (a == b) ≡ false → a ≢ b
apart a b e = grind (arith, nat_tests)

-- One process's part, and the rest.

parts : (p : Placement) (earlier : List ℕ) (pid : ℕ) (a : Starting) (more : List Starting) (owner : Owner)
    → wanted_lengths owner (start_asks p earlier pid (a ∷ more))
    ≡ wanted_lengths owner (text_asked (times a.image earlier) a.image (2 * length (slots_of p (Text a.image 0))))
    ++ (wanted_lengths owner (wanted (owners.Data pid) (pieces (2 * image_data_pages a.facts))) ++ (wanted_lengths owner (wanted (owners.Stack pid) (pieces 2))
    ++ (wanted_lengths owner (wanted (owners.U pid) (u_pieces 2)) ++ wanted_lengths owner (start_asks p (a.image ∷ earlier) (pid + 1) more))))
parts p earlier pid a more owner =
    let rest = start_asks p (a.image ∷ earlier) (pid + 1) more in
    let u = wanted (owners.U pid) (u_pieces 2) in
    let s = wanted (owners.Stack pid) (pieces 2) in
    let d = wanted (owners.Data pid) (pieces (2 * image_data_pages a.facts)) in
    let t = text_asked (times a.image earlier) a.image (2 * length (slots_of p (Text a.image 0))) in
    lengths_both owner t (d ++ (s ++ (u ++ rest))) ∙ ap (λ (xs : List ℕ). wanted_lengths owner t ++ xs)
    (lengths_both owner d (s ++ (u ++ rest)) ∙ ap (λ (xs : List ℕ). wanted_lengths owner d ++ xs)
    (lengths_both owner s (u ++ rest) ∙ ap (λ (xs : List ℕ). wanted_lengths owner s ++ xs) (lengths_both owner u rest)))

abbrev in_order : List ℕ → List ℕ → List ℕ → List ℕ → List ℕ → List ℕ
in_order t d s u r = t ++ (d ++ (s ++ (u ++ r)))

put_parts : (t d s u r a b c e f : List ℕ) → t ≡ a → d ≡ b → s ≡ c → u ≡ e → r ≡ f → in_order t d s u r ≡ in_order a b c e f
put_parts t d s u r a b c e f x y z w v = ap₂ (λ (p q : List ℕ). p ++ q) x (ap₂ (λ (p q : List ℕ). p ++ q) y (ap₂ (λ (p q : List ℕ). p ++ q) z (ap₂ (λ (p q : List ℕ). p ++ q) w v)))

-- Data, stack and u pages.

data_later : (p : Placement) (earlier : List ℕ) (pid : ℕ) (first : List Starting) (t : ℕ) → t < pid
    → wanted_lengths (owners.Data t) (start_asks p earlier pid first) ≡ []
data_later p earlier pid [] t l = refl
data_later p earlier pid (a ∷ more) t l = parts p earlier pid a more (owners.Data t)
    ∙ put_parts (wanted_lengths (owners.Data t) (text_asked (times a.image earlier) a.image (2 * length (slots_of p (Text a.image 0)))))
    (wanted_lengths (owners.Data t) (wanted (owners.Data pid) (pieces (2 * image_data_pages a.facts))))
    (wanted_lengths (owners.Data t) (wanted (owners.Stack pid) (pieces 2))) (wanted_lengths (owners.Data t) (wanted (owners.U pid) (u_pieces 2)))
    (wanted_lengths (owners.Data t) (start_asks p (a.image ∷ earlier) (pid + 1) more)) [] [] [] [] []
    (text_none (times a.image earlier) a.image (2 * length (slots_of p (Text a.image 0))) (owners.Data t) refl)
    (lengths_other (owners.Data pid) (owners.Data t) (pieces (2 * image_data_pages a.facts)) (ne_eqb pid t (λ e. absurd (omega arith))))
    (lengths_other (owners.Stack pid) (owners.Data t) (pieces 2) refl) (lengths_other (owners.U pid) (owners.Data t) (u_pieces 2) refl)
    (data_later p (a.image ∷ earlier) (pid + 1) more t (omega arith))

data_asked : (p : Placement) (earlier : List ℕ) (pid : ℕ) (first : List Starting) (t : ℕ)
    → wanted_lengths (owners.Data t) (start_asks p earlier pid first) ≡ pieces (2 * length (data_in (numbered space_number t (spaces_from pid first))))
data_asked p earlier pid [] t = sym pieces_none
data_asked p earlier pid (a ∷ more) t = parts p earlier pid a more (owners.Data t) ∙ go (pid == t) refl (data_asked p (a.image ∷ earlier) (pid + 1) more t)
  where
    rest : List ℕ
    rest = wanted_lengths (owners.Data t) (start_asks p (a.image ∷ earlier) (pid + 1) more)

    with : (d r b f : List ℕ) → d ≡ b → r ≡ f → in_order (wanted_lengths (owners.Data t) (text_asked (times a.image earlier) a.image (2 * length (slots_of p (Text a.image 0))))) d
        (wanted_lengths (owners.Data t) (wanted (owners.Stack pid) (pieces 2))) (wanted_lengths (owners.Data t) (wanted (owners.U pid) (u_pieces 2))) r ≡ b ++ f
    with d r b f x y = put_parts (wanted_lengths (owners.Data t) (text_asked (times a.image earlier) a.image (2 * length (slots_of p (Text a.image 0))))) d
        (wanted_lengths (owners.Data t) (wanted (owners.Stack pid) (pieces 2))) (wanted_lengths (owners.Data t) (wanted (owners.U pid) (u_pieces 2))) r [] b [] [] f
        (text_none (times a.image earlier) a.image (2 * length (slots_of p (Text a.image 0))) (owners.Data t) refl) x (lengths_other (owners.Stack pid) (owners.Data t) (pieces 2) refl)
        (lengths_other (owners.U pid) (owners.Data t) (u_pieces 2) refl) y

    own : List ℕ
    own = pieces (2 * image_data_pages a.facts)

    go : (b : Bool) → (pid == t) ≡ b → rest ≡ pieces (2 * length (data_in (numbered space_number t (spaces_from (pid + 1) more))))
        → in_order (wanted_lengths (owners.Data t) (text_asked (times a.image earlier) a.image (2 * length (slots_of p (Text a.image 0))))) (wanted_lengths (owners.Data t)
        (wanted (owners.Data pid) own)) (wanted_lengths (owners.Data t) (wanted (owners.Stack pid) (pieces 2))) (wanted_lengths (owners.Data t) (wanted (owners.U pid) (u_pieces 2))) rest
        ≡ pieces (2 * length (data_in (cond b (Some (Rattle.page_model.specs.Placement.new_pages pid a.image a.facts)) (numbered space_number t (spaces_from (pid + 1) more)))))
    go true e ih = with (wanted_lengths (owners.Data t) (wanted (owners.Data pid) own)) rest own []
        (subst (λ (n : ℕ). wanted_lengths (owners.Data n) (wanted (owners.Data pid) own) ≡ own) (eqb-true pid t e) (lengths_own (owners.Data pid) own))
        (data_later p (a.image ∷ earlier) (pid + 1) more t (let k = eqb-true pid t e in omega arith)) ∙ append-nil own
        ∙ ap (λ (n : ℕ). pieces (2 * n)) (sym (unfilled_length a.facts 0 (image_data_pages a.facts)))
    go false e ih = with (wanted_lengths (owners.Data t) (wanted (owners.Data pid) own)) rest [] (pieces (2 * length (data_in (numbered space_number t (spaces_from (pid + 1) more)))))
        (lengths_other (owners.Data pid) (owners.Data t) own e) ih

stack_later : (p : Placement) (earlier : List ℕ) (pid : ℕ) (first : List Starting) (t : ℕ) → t < pid
    → wanted_lengths (owners.Stack t) (start_asks p earlier pid first) ≡ []
stack_later p earlier pid [] t l = refl
stack_later p earlier pid (a ∷ more) t l = parts p earlier pid a more (owners.Stack t)
    ∙ put_parts (wanted_lengths (owners.Stack t) (text_asked (times a.image earlier) a.image (2 * length (slots_of p (Text a.image 0)))))
    (wanted_lengths (owners.Stack t) (wanted (owners.Data pid) (pieces (2 * image_data_pages a.facts))))
    (wanted_lengths (owners.Stack t) (wanted (owners.Stack pid) (pieces 2))) (wanted_lengths (owners.Stack t) (wanted (owners.U pid) (u_pieces 2)))
    (wanted_lengths (owners.Stack t) (start_asks p (a.image ∷ earlier) (pid + 1) more)) [] [] [] [] []
    (text_none (times a.image earlier) a.image (2 * length (slots_of p (Text a.image 0))) (owners.Stack t) refl)
    (lengths_other (owners.Data pid) (owners.Stack t) (pieces (2 * image_data_pages a.facts)) refl)
    (lengths_other (owners.Stack pid) (owners.Stack t) (pieces 2) (ne_eqb pid t (λ e. absurd (omega arith)))) (lengths_other (owners.U pid) (owners.Stack t) (u_pieces 2) refl)
    (stack_later p (a.image ∷ earlier) (pid + 1) more t (omega arith))

stack_asked : (p : Placement) (earlier : List ℕ) (pid : ℕ) (first : List Starting) (t : ℕ)
    → wanted_lengths (owners.Stack t) (start_asks p earlier pid first) ≡ pieces (2 * length (stack_in (numbered space_number t (spaces_from pid first))))
stack_asked p earlier pid [] t = sym pieces_none
stack_asked p earlier pid (a ∷ more) t = parts p earlier pid a more (owners.Stack t) ∙ go (pid == t) refl (stack_asked p (a.image ∷ earlier) (pid + 1) more t)
  where
    rest : List ℕ
    rest = wanted_lengths (owners.Stack t) (start_asks p (a.image ∷ earlier) (pid + 1) more)

    with : (s r c f : List ℕ) → s ≡ c → r ≡ f → in_order (wanted_lengths (owners.Stack t) (text_asked (times a.image earlier) a.image (2 * length (slots_of p (Text a.image 0)))))
        (wanted_lengths (owners.Stack t) (wanted (owners.Data pid) (pieces (2 * image_data_pages a.facts)))) s (wanted_lengths (owners.Stack t) (wanted (owners.U pid) (u_pieces 2))) r ≡ c ++ f
    with s r c f x y = put_parts (wanted_lengths (owners.Stack t) (text_asked (times a.image earlier) a.image (2 * length (slots_of p (Text a.image 0)))))
        (wanted_lengths (owners.Stack t) (wanted (owners.Data pid) (pieces (2 * image_data_pages a.facts)))) s (wanted_lengths (owners.Stack t) (wanted (owners.U pid) (u_pieces 2))) r [] [] c [] f
        (text_none (times a.image earlier) a.image (2 * length (slots_of p (Text a.image 0))) (owners.Stack t) refl)
        (lengths_other (owners.Data pid) (owners.Stack t) (pieces (2 * image_data_pages a.facts)) refl) x (lengths_other (owners.U pid) (owners.Stack t) (u_pieces 2) refl) y

    own : List ℕ
    own = pieces 2

    go : (b : Bool) → (pid == t) ≡ b → rest ≡ pieces (2 * length (stack_in (numbered space_number t (spaces_from (pid + 1) more))))
        → in_order (wanted_lengths (owners.Stack t) (text_asked (times a.image earlier) a.image (2 * length (slots_of p (Text a.image 0)))))
        (wanted_lengths (owners.Stack t) (wanted (owners.Data pid) (pieces (2 * image_data_pages a.facts)))) (wanted_lengths (owners.Stack t) (wanted (owners.Stack pid) own))
        (wanted_lengths (owners.Stack t) (wanted (owners.U pid) (u_pieces 2))) rest
        ≡ pieces (2 * length (stack_in (cond b (Some (Rattle.page_model.specs.Placement.new_pages pid a.image a.facts)) (numbered space_number t (spaces_from (pid + 1) more)))))
    go true e ih = with (wanted_lengths (owners.Stack t) (wanted (owners.Stack pid) own)) rest own []
        (subst (λ (n : ℕ). wanted_lengths (owners.Stack n) (wanted (owners.Stack pid) own) ≡ own) (eqb-true pid t e) (lengths_own (owners.Stack pid) own))
        (stack_later p (a.image ∷ earlier) (pid + 1) more t (let k = eqb-true pid t e in omega arith)) ∙ append-nil own
    go false e ih = with (wanted_lengths (owners.Stack t) (wanted (owners.Stack pid) own)) rest [] (pieces (2 * length (stack_in (numbered space_number t (spaces_from (pid + 1) more)))))
        (lengths_other (owners.Stack pid) (owners.Stack t) own e) ih

u_later : (p : Placement) (earlier : List ℕ) (pid : ℕ) (first : List Starting) (t : ℕ) → t < pid
    → wanted_lengths (owners.U t) (start_asks p earlier pid first) ≡ []
u_later p earlier pid [] t l = refl
u_later p earlier pid (a ∷ more) t l = parts p earlier pid a more (owners.U t)
    ∙ put_parts (wanted_lengths (owners.U t) (text_asked (times a.image earlier) a.image (2 * length (slots_of p (Text a.image 0)))))
    (wanted_lengths (owners.U t) (wanted (owners.Data pid) (pieces (2 * image_data_pages a.facts))))
    (wanted_lengths (owners.U t) (wanted (owners.Stack pid) (pieces 2))) (wanted_lengths (owners.U t) (wanted (owners.U pid) (u_pieces 2)))
    (wanted_lengths (owners.U t) (start_asks p (a.image ∷ earlier) (pid + 1) more)) [] [] [] [] []
    (text_none (times a.image earlier) a.image (2 * length (slots_of p (Text a.image 0))) (owners.U t) refl) (lengths_other (owners.Data pid) (owners.U t) (pieces (2 * image_data_pages a.facts)) refl)
    (lengths_other (owners.Stack pid) (owners.U t) (pieces 2) refl) (lengths_other (owners.U pid) (owners.U t) (u_pieces 2) (ne_eqb pid t (λ e. absurd (omega arith))))
    (u_later p (a.image ∷ earlier) (pid + 1) more t (omega arith))

u_asked : (p : Placement) (earlier : List ℕ) (pid : ℕ) (first : List Starting) (t : ℕ)
    → wanted_lengths (owners.U t) (start_asks p earlier pid first) ≡ u_pieces (u_blocks (is_started pid first t))
u_asked p earlier pid [] t = refl
u_asked p earlier pid (a ∷ more) t = parts p earlier pid a more (owners.U t) ∙ go (pid == t) refl (u_asked p (a.image ∷ earlier) (pid + 1) more t)
  where
    rest : List ℕ
    rest = wanted_lengths (owners.U t) (start_asks p (a.image ∷ earlier) (pid + 1) more)

    with : (u r c f : List ℕ) → u ≡ c → r ≡ f → in_order (wanted_lengths (owners.U t) (text_asked (times a.image earlier) a.image (2 * length (slots_of p (Text a.image 0)))))
        (wanted_lengths (owners.U t) (wanted (owners.Data pid) (pieces (2 * image_data_pages a.facts)))) (wanted_lengths (owners.U t) (wanted (owners.Stack pid) (pieces 2))) u r ≡ c ++ f
    with u r c f x y = put_parts (wanted_lengths (owners.U t) (text_asked (times a.image earlier) a.image (2 * length (slots_of p (Text a.image 0)))))
        (wanted_lengths (owners.U t) (wanted (owners.Data pid) (pieces (2 * image_data_pages a.facts)))) (wanted_lengths (owners.U t) (wanted (owners.Stack pid) (pieces 2))) u r [] [] [] c f
        (text_none (times a.image earlier) a.image (2 * length (slots_of p (Text a.image 0))) (owners.U t) refl)
        (lengths_other (owners.Data pid) (owners.U t) (pieces (2 * image_data_pages a.facts)) refl) (lengths_other (owners.Stack pid) (owners.U t) (pieces 2) refl) x y

    go : (b : Bool) → (pid == t) ≡ b → rest ≡ u_pieces (u_blocks (is_started (pid + 1) more t))
        → in_order (wanted_lengths (owners.U t) (text_asked (times a.image earlier) a.image (2 * length (slots_of p (Text a.image 0)))))
        (wanted_lengths (owners.U t) (wanted (owners.Data pid) (pieces (2 * image_data_pages a.facts)))) (wanted_lengths (owners.U t) (wanted (owners.Stack pid) (pieces 2)))
        (wanted_lengths (owners.U t) (wanted (owners.U pid) (u_pieces 2))) rest
        ≡ u_pieces (u_blocks (cond b true (is_started (pid + 1) more t)))
    go true e ih = with (wanted_lengths (owners.U t) (wanted (owners.U pid) (u_pieces 2))) rest (u_pieces 2) []
        (subst (λ (n : ℕ). wanted_lengths (owners.U n) (wanted (owners.U pid) (u_pieces 2)) ≡ u_pieces 2) (eqb-true pid t e) (lengths_own (owners.U pid) (u_pieces 2)))
        (u_later p (a.image ∷ earlier) (pid + 1) more t (let k = eqb-true pid t e in omega arith))
    go false e ih =
        with (wanted_lengths (owners.U t) (wanted (owners.U pid) (u_pieces 2))) rest [] (u_pieces (u_blocks (is_started (pid + 1) more t)))
        (lengths_other (owners.U pid) (owners.U t) (u_pieces 2) e) ih

-- Text.

text_shared : (n image blocks : ℕ) (owner : Owner) → 0 < n → wanted_lengths owner (text_asked n image blocks) ≡ []
text_shared zero image blocks owner l = absurd (omega arith)
text_shared (suc n) image blocks owner l = refl

-- the text of an image that started before, or of another one
text_other : (earlier : List ℕ) (image i blocks : ℕ) → (image ≢ i) ⊎ (0 < times image earlier)
    → wanted_lengths (owners.Text i) (text_asked (times image earlier) image blocks) ≡ []
text_other earlier image i blocks (inl n) = text_none (times image earlier) image blocks (owners.Text i) (ne_eqb image i n)
text_other earlier image i blocks (inr l) = text_shared (times image earlier) image blocks (owners.Text i) l

text_rest : (p : Placement) (earlier : List ℕ) (pid : ℕ) (a : Starting) (more : List Starting) (i : ℕ) (t r b f : List ℕ) → t ≡ b → r ≡ f
    → in_order t (wanted_lengths (owners.Text i) (wanted (owners.Data pid) (pieces (2 * image_data_pages a.facts))))
    (wanted_lengths (owners.Text i) (wanted (owners.Stack pid) (pieces 2))) (wanted_lengths (owners.Text i) (wanted (owners.U pid) (u_pieces 2))) r ≡ b ++ f
text_rest p earlier pid a more i t r b f x y = put_parts t (wanted_lengths (owners.Text i) (wanted (owners.Data pid) (pieces (2 * image_data_pages a.facts))))
    (wanted_lengths (owners.Text i) (wanted (owners.Stack pid) (pieces 2))) (wanted_lengths (owners.Text i) (wanted (owners.U pid) (u_pieces 2))) r b [] [] [] f
    x (lengths_other (owners.Data pid) (owners.Text i) (pieces (2 * image_data_pages a.facts)) refl) (lengths_other (owners.Stack pid) (owners.Text i) (pieces 2) refl)
    (lengths_other (owners.U pid) (owners.Text i) (u_pieces 2) refl) y

counted : (b : Bool) (n : ℕ) → n ≤ cond b 1 0 + n
counted true n = omega arith
counted false n = omega arith

text_later : (p : Placement) (earlier : List ℕ) (pid : ℕ) (first : List Starting) (i : ℕ) → 0 < times i earlier
    → wanted_lengths (owners.Text i) (start_asks p earlier pid first) ≡ []
text_later p earlier pid [] i l = refl
text_later p earlier pid (a ∷ more) i l = parts p earlier pid a more (owners.Text i)
    ∙ text_rest p earlier pid a more i (wanted_lengths (owners.Text i) (text_asked (times a.image earlier) a.image (2 * length (slots_of p (Text a.image 0)))))
    (wanted_lengths (owners.Text i) (start_asks p (a.image ∷ earlier) (pid + 1) more)) [] []
    (text_other earlier a.image i (2 * length (slots_of p (Text a.image 0))) (go (a.image == i) refl))
    (text_later p (a.image ∷ earlier) (pid + 1) more i (let k = counted (a.image == i) (times i earlier) in omega arith))
  where
    go : (b : Bool) → (a.image == i) ≡ b → (a.image ≢ i) ⊎ (0 < times a.image earlier)
    go true e = inr (subst (λ (n : ℕ). 0 < times n earlier) (sym (eqb-true a.image i e)) l)
    go false e = inl (apart a.image i e)

while_more : (n blocks : ℕ) → text_pieces blocks ≡ text_pieces_while (1 + n) blocks
while_more n blocks = ap (λ (k : ℕ). text_pieces_while k blocks) (let z : suc n ≡ 1 + n = omega arith in z)

text_all : (p : Placement) (earlier : List ℕ) (pid : ℕ) (first : List Starting) (i : ℕ) → times i earlier ≡ 0
    → wanted_lengths (owners.Text i) (start_asks p earlier pid first)
    ≡ text_pieces_while (sharers_in i (spaces_from pid first)) (2 * length (slots_of p (Text i 0)))
text_all p earlier pid [] i z = refl
text_all p earlier pid (a ∷ more) i z = parts p earlier pid a more (owners.Text i) ∙ go (a.image == i) refl (text_all p (a.image ∷ earlier) (pid + 1) more i)
  where
    blocks : ℕ
    blocks = 2 * length (slots_of p (Text i 0))

    mine : List ℕ
    mine = wanted_lengths (owners.Text i) (text_asked (times a.image earlier) a.image (2 * length (slots_of p (Text a.image 0))))

    rest : List ℕ
    rest = wanted_lengths (owners.Text i) (start_asks p (a.image ∷ earlier) (pid + 1) more)

    first_text : a.image ≡ i → mine ≡ text_pieces blocks
    first_text e = ap (λ (m : ℕ). wanted_lengths (owners.Text i) (text_asked (times m earlier) m (2 * length (slots_of p (Text m 0))))) e
        ∙ ap (λ (n : ℕ). wanted_lengths (owners.Text i) (text_asked n i blocks)) z ∙ lengths_own (owners.Text i) (text_pieces blocks)

    go : (b : Bool) → (a.image == i) ≡ b → (times i (a.image ∷ earlier) ≡ 0 → rest ≡ text_pieces_while (sharers_in i (spaces_from (pid + 1) more)) blocks)
        → in_order mine (wanted_lengths (owners.Text i) (wanted (owners.Data pid) (pieces (2 * image_data_pages a.facts)))) (wanted_lengths (owners.Text i) (wanted (owners.Stack pid) (pieces 2)))
        (wanted_lengths (owners.Text i) (wanted (owners.U pid) (u_pieces 2))) rest
        ≡ text_pieces_while (cond b 1 0 + sharers_in i (spaces_from (pid + 1) more)) blocks
    go true e ih = text_rest p earlier pid a more i mine rest (text_pieces blocks) [] (first_text (eqb-true a.image i e))
        (text_later p (a.image ∷ earlier) (pid + 1) more i (subst (λ (n : ℕ). 0 < times i (n ∷ earlier)) (sym (eqb-true a.image i e)) (let k = times_head i earlier in omega arith)))
        ∙ append-nil (text_pieces blocks) ∙ while_more (sharers_in i (spaces_from (pid + 1) more)) blocks
    go false e ih = text_rest p earlier pid a more i mine rest [] (text_pieces_while (sharers_in i (spaces_from (pid + 1) more)) blocks)
        (text_other earlier a.image i (2 * length (slots_of p (Text a.image 0))) (inl (apart a.image i e)))
        (ih (ap (λ (b : Bool). cond b 1 0 + times i earlier) e ∙ (let k : 0 + times i earlier ≡ 0 = omega arith in k)))
        ∙ ap (λ (n : ℕ). text_pieces_while n blocks) (let k : sharers_in i (spaces_from (pid + 1) more) ≡ 0 + sharers_in i (spaces_from (pid + 1) more) = omega arith in k)

-- The whole.

data_whole : (n : ℕ) → AllWhole (pieces (2 * n))
data_whole n = whole_from (pieces (2 * n)) (λ i m e. pieces_whole (owners.Data 0) (2 * n) i m tt e)

u_whole : (n : ℕ) → AllWhole (u_pieces n)
u_whole n = whole_from (u_pieces n) (λ i m e. pieces_whole (owners.U 0) n i m tt e)

text_whole : (n pages : ℕ) → AllWhole (text_pieces_while n (2 * pages))
text_whole zero pages = tt
text_whole (suc n) pages = whole_from (text_pieces (2 * pages)) (λ i m e. pieces_whole (owners.Text 0) (2 * pages) i m (even_text pages) e)

-- Where the pieces of the first processes have found their places one after another, frames, blocks and text have their
-- owners.
pub start_found : (size : ℕ) (images : List Image) (first : List Starting) (frames : ℕ) (hs : Holdings)
    → place_all size [] (start_asks (start_placement images first frames) [] 1 first) ≡ Ok hs
    → OneOwner size (is_started 1 first) (start_placement images first frames) hs
start_found size images first frames hs e = one_owner size (is_started 1 first) p hs (start_owner images first frames)
    (owns_from size (is_started 1 first) p hs
    (found_apart size [] hs ws (record { pieces = λ k d l. absurd (omega arith); apart = λ i j d o l. absurd (omega arith) }) (wanted_whole ws whole) e)
    (record {
      of_data = λ t. found_lengths size [] hs ws (owners.Data t) e ∙ data_asked p [] 1 first t;
      of_stack = λ t. found_lengths size [] hs ws (owners.Stack t) e ∙ stack_asked p [] 1 first t;
      of_text = λ i. found_lengths size [] hs ws (owners.Text i) e ∙ text_all p [] 1 first i refl;
    })
    (λ n. found_lengths size [] hs ws (owners.U n) e ∙ u_asked p [] 1 first n))
    (start_aside images first frames)
  where
    p : Placement
    p = start_placement images first frames

    ws : List Wanted
    ws = start_asks p [] 1 first

    whole : (owner : Owner) → AllWhole (wanted_lengths owner ws)
    whole (owners.Data t) = subst AllWhole (sym (data_asked p [] 1 first t)) (data_whole (length (slots_of p (Data t 0))))
    whole (owners.Stack t) = subst AllWhole (sym (stack_asked p [] 1 first t)) (data_whole (length (slots_of p (Stack t 0))))
    whole (owners.U n) = subst AllWhole (sym (u_asked p [] 1 first n)) (u_whole (u_blocks (is_started 1 first n)))
    whole (owners.Text i) = subst AllWhole (sym (text_all p [] 1 first i refl)) (text_whole (sharers p i) (length (slots_of p (Text i 0))))
