-- What reading a text from its front gives: something, and the text after it. All readers of the grammar are put together of this.
use Rattle.std.specs.Prelude.{◌≡◌, ℕ, ◌==◌, Bool, if◌then◌else◌, List, [], ◌∷◌, Option, Some, None}

infixl 10 ◌>>=◌
-- what a function gives for what is there; none where nothing is
abbrev pub ◌>>=◌ : {A B : Type 0} → Option A → (A → Option B) → Option B
Some x >>= f = f x
None >>= f = None

-- what is read, and the text after it; or none, where the text doesn't begin so
abbrev pub Text : Type 0 → Type 0
Text A = Option (A × List ℕ)

-- what a function returned is what reading gives
abbrev pub Gives : {X Y : Type 0} → (X → Y) → Option X → Option Y → Type 0
Gives view (Some x) read = read ≡ Some (view x)
Gives view None read = read ≡ None

-- the text after this byte
unfoldable pub behind_byte : ℕ → List ℕ → Option (List ℕ)
behind_byte byte [] = None
behind_byte byte (first ∷ rest) = if first == byte then Some rest else None

-- the bytes of a kind at the front, and the text after them
abbrev pub front_of : (ℕ → Bool) → List ℕ → List ℕ
front_of is [] = []
front_of is (byte ∷ bytes) = if is byte then byte ∷ front_of is bytes else []

-- the text after the bytes of a kind at the front
abbrev pub behind : (ℕ → Bool) → List ℕ → List ℕ
behind is [] = []
behind is (byte ∷ bytes) = if is byte then behind is bytes else byte ∷ bytes
