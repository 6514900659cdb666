-- The token table as the lexer leaves it: the tokens left, read off it, are the script's lexemes in reverse, and places are read off it. Assumes nothing.
-- Why: token i stands in the three cells from 3 * i on, whatever follows the tokens, and the last one is read first.
use mathlib.Core.Path.{◌≡◌, refl, sym, ap, ◌∙◌}
use mathlib.Core.List.{List, [], ◌∷◌, ◌++◌, map, reverse_aux, append_assoc, append-nil}
use Prim.Native.Nat.{ℕ, zero, suc, ◌+◌, ◌*◌}
use native.Mathlib.Omega.{arith}
use lib.ListN.{length, get_or}
use Rattle.tables.specs.Tables.{zeros, flat, newest}
use Rattle.tables.proofs.PutLaws.{zeros_cell}
use Rattle.lex.specs.Token.{Token, token, lexeme, Lexeme}
use Rattle.lex.specs.Script.{numbers}
use Rattle.standard.specs.Outcome.{place_at}
use Rattle.row.specs.Tokens.{token_at, lexemes_left}

-- the readings are the entries of a list, in order
abbrev ReadAs : {A : Type 0} → (ℕ → A) → List A → Type 0
ReadAs read [] = Unit {0}
ReadAs read (x ∷ xs) = (read 0 ≡ x) × ReadAs (λ (i : ℕ). read (suc i)) xs

module _ {A : Type 0} where
  -- the oldest entry stands last
  newest_oldest : (read : ℕ → A) (n : ℕ) → newest read (suc n) ≡ newest (λ (i : ℕ). read (suc i)) n ++ (read 0 ∷ [])
  newest_oldest read zero = refl
  newest_oldest read (suc n) = ap (λ (l : List A). read (suc n) ∷ l) (newest_oldest read n)

  newest_reversed : (read : ℕ → A) (xs acc : List A) → ReadAs read xs → newest read (length xs) ++ acc ≡ reverse_aux xs acc
  newest_reversed read [] acc h = refl
  newest_reversed read (x ∷ xs) acc h =
      ap (λ (l : List A). l ++ acc) (newest_oldest read (length xs))
      ∙ append_assoc (newest (λ (i : ℕ). read (suc i)) (length xs)) (read 0 ∷ []) acc
      ∙ ap (λ (y : A). newest (λ (i : ℕ). read (suc i)) (length xs) ++ (y ∷ acc)) h.0
      ∙ newest_reversed (λ (i : ℕ). read (suc i)) xs (x ∷ acc) h.1

-- behind the first token's three cells stand the others
token_behind : (c v p : ℕ) (table : List ℕ) (i : ℕ) → token_at (c ∷ v ∷ p ∷ table) (suc i) ≡ token_at table i
token_behind c v p table i =
    let a : 3 * suc i ≡ suc (suc (suc (3 * i))) = omega arith in
    let b : 3 * suc i + 1 ≡ suc (suc (suc (3 * i + 1))) = omega arith in
    let d : 3 * suc i + 2 ≡ suc (suc (suc (3 * i + 2))) = omega arith in
    ap (λ (k : ℕ). token (get_or (c ∷ v ∷ p ∷ table) k 0) (get_or (c ∷ v ∷ p ∷ table) (3 * suc i + 1) 0) (get_or (c ∷ v ∷ p ∷ table) (3 * suc i + 2) 0)) a
    ∙ ap (λ (k : ℕ). token (get_or table (3 * i) 0) (get_or (c ∷ v ∷ p ∷ table) k 0) (get_or (c ∷ v ∷ p ∷ table) (3 * suc i + 2) 0)) b
    ∙ ap (λ (k : ℕ). token (get_or table (3 * i) 0) (get_or table (3 * i + 1) 0) (get_or (c ∷ v ∷ p ∷ table) k 0)) d

module _ (script rest : List ℕ) where
  read_tokens : (ts : List Token) (read : ℕ → Lexeme) → ((i : ℕ) → read i ≡ lexeme script (token_at (flat (map numbers ts) ++ rest) i)) → ReadAs read (map (lexeme script) ts)
  read_tokens [] read h = tt
  read_tokens (t ∷ ts) read h =
      (h 0, read_tokens ts (λ (i : ℕ). read (suc i)) (λ i. h (suc i) ∙ ap (lexeme script) (token_behind t.code t.number t.place (flat (map numbers ts) ++ rest) i)))

  -- at the start all tokens are left
  pub all_left : (ts : List Token) → lexemes_left script (flat (map numbers ts) ++ rest) (length ts) ≡ reverse_aux (map (lexeme script) ts) []
  all_left ts =
      sym (append-nil (lexemes_left script (flat (map numbers ts) ++ rest) (length ts)))
      ∙ ap (λ (n : ℕ). newest here n ++ []) (sym (mapped ts))
      ∙ newest_reversed here (map (lexeme script) ts) [] (read_tokens ts here (λ i. refl))
    where
      here : ℕ → Lexeme
      here i = lexeme script (token_at (flat (map numbers ts) ++ rest) i)

      mapped : (us : List Token) → length (map (lexeme script) us) ≡ length us
      mapped [] = refl
      mapped (u ∷ us) = ap suc (mapped us)

-- the place of the token with i before it, 0 if there is none, stands in cell 3 * i + 2
pub place_cell : (ts : List Token) (m i : ℕ) → get_or (flat (map numbers ts) ++ zeros m) (3 * i + 2) 0 ≡ place_at ts i
place_cell [] m i = zeros_cell m (3 * i + 2)
place_cell (t ∷ ts) m zero = refl
place_cell (t ∷ ts) m (suc i) = ap (λ (u : Token). u.place) (token_behind t.code t.number t.place (flat (map numbers ts) ++ zeros m) i) ∙ place_cell ts m i
