use Rattle.std.proofs.Common.{◌≡◌, ℕ, ◌-◌, Bool, true, false, List, ◌∷◌, length, take, drop, Result, Ok, Err, refl, sym, ap, ◌∙◌, subst, arith, rules}
use Rattle.std.specs.Prelude.{slice_index_or, is_ok, IfOk, OnOk}
use Rattle.swap_book.specs.Holdings.{Holdings, of_owner, kept as kept_first}
use Rattle.swap_book.specs.Book.{Book, with_holdings, growth_of, grown_book}
use Rattle.swap_wants.specs.declared.Want.{Want}
use Rattle.swap_wants.specs.GivingBack.{MayGiveBack}
use Rattle.swap_wants.specs.Wants.{found_for, fits_for, book_asked, CanAsk}
use Rattle.swap_wants.proofs.Growing.{no_wants, split_wants, fewer_wants, no_fit, all_found, none_behind, can_behind, Behind, behind_answer, behind_kept, behind_back, behind_not, behind_may, behind_err}
use Rattle.swap_wants.proofs.+find_all.Goals as goal

pub returns-in_default-clause-answer : goal.returns-in_default-clause-answer
returns-in_default-clause-answer t c = ap (λ (r : Result Holdings ℕ). is_ok r) (sym (no_wants c.args.book.now.size c.args.book.now.holdings c.args.wants.now c.in_default.len_below))

kept_book : (keeps : Bool) (b : Book) (ws : List Want) → found_for b.size b.holdings ws ≡ Ok b.holdings → b ≡ book_asked keeps b ws
kept_book true b ws e = ap (grown_book b) (sym e)
kept_book false b ws e = refl

left_book : (keeps : Bool) (b : Book) (ws : List Want) (n : ℕ) → found_for b.size b.holdings ws ≡ Err n → b ≡ book_asked keeps b ws
left_book true b ws n e = ap (grown_book b) (sym e)
left_book false b ws n e = refl

pub returns-in_default-clause-book : goal.returns-in_default-clause-book
returns-in_default-clause-book t c = kept_book c.args.keeps c.args.book.now c.args.wants.now (no_wants c.args.book.now.size c.args.book.now.holdings c.args.wants.now c.in_default.len_below)

pub returns-in-NoFit-clause-answer : goal.returns-in-NoFit-clause-answer
returns-in-NoFit-clause-answer t c =
    let w : Want = slice_index_or c.args.wants.now 0 _ in
    let ws : List Want = take (length c.args.wants.now - 1) (drop 1 c.args.wants.now) in
    let split : c.args.wants.now ≡ w ∷ ws = split_wants c.args.wants.now _ c.in-len1-up.len_at_least in
    let r : Result Holdings ℕ = growth_of c.args.book.now w.owner w.blocks in
    let no = no_fit r _ (sym c.in_ok-grow.ensures.answer ∙ c.in-NoFit.is) in
    sym (ap (λ (xs : List Want). fits_for c.args.book.now.size c.args.book.now.holdings xs) split
    ∙ ap (λ (x : Result Holdings ℕ). is_ok x) (none_behind c.args.book.now.size c.args.book.now.holdings w ws _ no))

pub returns-in-NoFit-clause-book : goal.returns-in-NoFit-clause-book
returns-in-NoFit-clause-book t c =
    let b : Book = c.args.book.now in
    let w : Want = slice_index_or c.args.wants.now 0 _ in
    let ws : List Want = take (length c.args.wants.now - 1) (drop 1 c.args.wants.now) in
    let split : c.args.wants.now ≡ w ∷ ws = split_wants c.args.wants.now _ c.in-len1-up.len_at_least in
    let r : Result Holdings ℕ = growth_of b w.owner w.blocks in
    let no = no_fit r _ (sym c.in_ok-grow.ensures.answer ∙ c.in-NoFit.is) in
    c.in_ok-grow.ensures.book ∙ ap (grown_book b) no
    ∙ left_book c.args.keeps b c.args.wants.now _ (ap (found_for b.size b.holdings) split ∙ none_behind b.size b.holdings w ws _ no)

pub find_all-found-requires : goal.find_all-found-requires
find_all-found-requires t c =
    let b : Book = c.args.book.now in
    let w : Want = slice_index_or c.args.wants.now 0 _ in
    let ws : List Want = take (length c.args.wants.now - 1) (drop 1 c.args.wants.now) in
    let split : c.args.wants.now ≡ w ∷ ws = split_wants c.args.wants.now _ c.in-len1-up.len_at_least in
    let ok = all_found (growth_of b w.owner w.blocks) (sym c.in_ok-grow.ensures.answer ∙ c.in_default-2.is) in
    let can : CanAsk b.holdings (w ∷ ws) = subst (CanAsk b.holdings) split c.requires in
    (let l = fewer_wants c.args.wants.now c.in-len1-up.len_at_least in omega (arith, c.decreases, l), can_behind b c.grow.new.self ok.0 w ws ok.1 c.in_ok-grow.ensures.book can)

pub returns-then-is_kept : goal.returns-then-is_kept
returns-then-is_kept t c =
    let b : Book = c.args.book.now in
    let w : Want = slice_index_or c.args.wants.now 0 _ in
    let ws : List Want = take (length c.args.wants.now - 1) (drop 1 c.args.wants.now) in
    let split : c.args.wants.now ≡ w ∷ ws = split_wants c.args.wants.now _ c.in-len1-up.len_at_least in
    let ok = all_found (growth_of b w.owner w.blocks) (sym c.in_ok-grow.ensures.answer ∙ c.in_default-2.is) in
    let can : CanAsk b.holdings (w ∷ ws) = subst (CanAsk b.holdings) split c.requires in
    let g : Behind b c.grow.new.self c.find_all-found.new.book w ws c.args.keeps c.find_all-found.result = record {
      hs = ok.0;
      found = ok.1;
      now_is = c.in_ok-grow.ensures.book;
      others = can.differ.0;
      answer = c.find_all-found.ensures.answer;
      book = c.find_all-found.ensures.book;
      err = c.find_all-found.ensures.err;
    } in
    record {
      answer = subst (λ (xs : List Want). IfOk c.find_all-found.result (λ fits. fits ≡ fits_for b.size b.holdings xs)) (sym split)
          (behind_answer b c.grow.new.self c.find_all-found.new.book w ws c.args.keeps c.find_all-found.result g);
      book =
          subst (λ (xs : List Want). OnOk c.find_all-found.result (c.find_all-found.new.book ≡ book_asked c.args.keeps b xs)) (sym split)
          (behind_kept b c.grow.new.self c.find_all-found.new.book w ws c.args.keeps c.find_all-found.result g (sym c.is_kept.ensures ∙ c.if-is_kept.true));
      err = search rules;
    }

pub give_back-requires : goal.give_back-requires
give_back-requires t c =
    let b : Book = c.args.book.now in
    let w : Want = slice_index_or c.args.wants.now 0 _ in
    let ws : List Want = take (length c.args.wants.now - 1) (drop 1 c.args.wants.now) in
    let split : c.args.wants.now ≡ w ∷ ws = split_wants c.args.wants.now _ c.in-len1-up.len_at_least in
    let ok = all_found (growth_of b w.owner w.blocks) (sym c.in_ok-grow.ensures.answer ∙ c.in_default-2.is) in
    let can : CanAsk b.holdings (w ∷ ws) = subst (CanAsk b.holdings) split c.requires in
    let g : Behind b c.grow.new.self c.find_all-found.new.book w ws c.args.keeps c.find_all-found.result = record {
      hs = ok.0;
      found = ok.1;
      now_is = c.in_ok-grow.ensures.book;
      others = can.differ.0;
      answer = c.find_all-found.ensures.answer;
      book = c.find_all-found.ensures.book;
      err = c.find_all-found.ensures.err;
    } in
    subst (λ (n : ℕ). MayGiveBack w.owner w.blocks n c.find_all-found.new.book.holdings) (sym (c.pieces_held-held.ensures ∙ ap (λ (hs : Holdings). length (of_owner w.owner hs)) c.holdings.ensures))
    (behind_may b c.grow.new.self c.find_all-found.new.book w ws c.args.keeps c.find_all-found.result g (sym c.is_kept.ensures ∙ c.if-is_kept.false) can.each.0)

pub returns : goal.returns
returns t c =
    let b : Book = c.args.book.now in
    let w : Want = slice_index_or c.args.wants.now 0 _ in
    let ws : List Want = take (length c.args.wants.now - 1) (drop 1 c.args.wants.now) in
    let split : c.args.wants.now ≡ w ∷ ws = split_wants c.args.wants.now _ c.in-len1-up.len_at_least in
    let ok = all_found (growth_of b w.owner w.blocks) (sym c.in_ok-grow.ensures.answer ∙ c.in_default-2.is) in
    let can : CanAsk b.holdings (w ∷ ws) = subst (CanAsk b.holdings) split c.requires in
    let g : Behind b c.grow.new.self c.find_all-found.new.book w ws c.args.keeps c.find_all-found.result = record {
      hs = ok.0;
      found = ok.1;
      now_is = c.in_ok-grow.ensures.book;
      others = can.differ.0;
      answer = c.find_all-found.ensures.answer;
      book = c.find_all-found.ensures.book;
      err = c.find_all-found.ensures.err;
    } in
    let kept = sym c.is_kept.ensures ∙ c.if-is_kept.false in
    let held = c.pieces_held-held.ensures ∙ ap (λ (hs : Holdings). length (of_owner w.owner hs)) c.holdings.ensures in
    let back : c.give_back.new.book ≡ b = c.give_back.ensures ∙ ap (λ (n : ℕ). with_holdings c.find_all-found.new.book (kept_first w.owner n c.find_all-found.new.book.holdings)) held
    ∙ behind_back b c.grow.new.self c.find_all-found.new.book w ws c.args.keeps c.find_all-found.result g kept in
    record {
      answer = subst (λ (xs : List Want). IfOk c.find_all-found.result (λ fits. fits ≡ fits_for b.size b.holdings xs)) (sym split)
          (behind_answer b c.grow.new.self c.find_all-found.new.book w ws c.args.keeps c.find_all-found.result g);
      book =
          subst (λ (xs : List Want). OnOk c.find_all-found.result (c.give_back.new.book ≡ book_asked c.args.keeps b xs)) (sym split)
          (behind_not b c.grow.new.self c.find_all-found.new.book c.give_back.new.book w ws c.args.keeps c.find_all-found.result g kept back);
      err = behind_err c.find_all-found.result c.give_back.new.book b back;
    }
