-- A push that is read as a number is that number's shortest spelling, and back. Assumes nothing.
-- Why: at most four digits below 256, of which the last is below 128, fix a number and are fixed by it, once the last is no padding.
use mathlib.Core.Path.{◌≡◌, refl, sym, ap, subst, ◌∙◌}
use mathlib.Core.Bool.{Bool, true, false, true≢false}
use mathlib.Core.List.{List, [], ◌∷◌}
use mathlib.Core.Logic.{◌⊎◌, inl, inr, ⊎_elim}
use Prim.Native.Nat.{ℕ, zero, suc, ◌+◌, ◌*◌, ◌/◌, ◌%◌, ◌≤◌, ◌<◌}
use native.Mathlib.Omega.{arith}
use borrow.Author.Tests.{eq-eqb, ne_eqb, le-leb, lt-leb, lt-ltb, le-ltb, eqb-false, leb-true, leb-false, ltb-true, ltb-false}
use lib.Dec.{eqb, leb, ltb}
use lib.ListN.{length, get_or}
use Rattle.tables.specs.Choose.{pick}
use Rattle.std.specs.Prelude.{Ok, Err}
use Rattle.instruction.specs.declared.Error.TheVariants as error
use Rattle.lex.specs.Token.{Bytes}
use Rattle.instruction.specs.Number.{little_endian, last_byte, minimal, number_of}
use Rattle.instruction.specs.Push.{small}
use Rattle.spelling.specs.Spell.{push_bytes, digits, number_bytes}

-- what a number that is read is
number_pick : (m n : Bool) (u v : ℕ) → pick m (pick n (Err error.NegativeInt) (Ok u)) (Err error.InvalidInt) ≡ Ok v → (m ≡ true) × (n ≡ false) × (u ≡ v)
number_pick true true u v e = let z : ◌≡◌ {A = ℕ} 0 1 = cc in absurd (omega arith)
number_pick true false u v e = (refl, refl, cc)
number_pick false n u v e = let z : ◌≡◌ {A = ℕ} 0 1 = cc in absurd (omega arith)

number_read : (d : List ℕ) (v : ℕ) → number_of d ≡ Ok v → (minimal d ≡ true) × (leb 128 (last_byte d) ≡ false) × (little_endian d ≡ v)
unfolding number_of
number_read d v e = number_pick (minimal d) (leb 128 (last_byte d)) (little_endian d) v e

-- the minimal test: the last digit says something, or the one before it needs its top bit
minimal_pick : (z : Bool) (t : Bool) → pick z t true ≡ true → (z ≡ false) ⊎ (t ≡ true)
minimal_pick true t e = inr e
minimal_pick false t e = inl refl

-- the lowest digit
low_digit : (a b : ℕ) → a < 256 → (a + 256 * b) % 256 ≡ a
low_digit a b h = omega arith

-- a number of so many digits, spelled
spelled_1 : (v : ℕ) → 17 ≤ v → v < 128 → number_bytes v ≡ 1 ∷ v ∷ []
unfolding number_bytes digits
spelled_1 v l h = simp (ne_eqb v 0 (λ e. omega arith), lt-leb v 16 (omega arith), lt-ltb v 0x80 h)

spelled_2 : (v a b : ℕ) → a < 256 → v ≡ a + 256 * b → 128 ≤ v → v < 32768 → number_bytes v ≡ 2 ∷ a ∷ b ∷ []
unfolding number_bytes digits
spelled_2 v a b la e l h =
    let p : v % 256 ≡ a = omega arith in
    let q : v / 256 ≡ b = omega arith in
    simp (ne_eqb v 0 (λ e. omega arith), lt-leb v 16 (omega arith), le-ltb v 0x80 l, lt-ltb v 0x8000 h, p, q)

spelled_3 : (v a b c : ℕ) → a < 256 → b < 256 → v ≡ a + 256 * (b + 256 * c) → 32768 ≤ v → v < 8388608 → number_bytes v ≡ 3 ∷ a ∷ b ∷ c ∷ []
unfolding number_bytes digits
spelled_3 v a b c la lb e l h =
    let p : v % 256 ≡ a = omega arith in
    let w : v / 256 ≡ b + 256 * c = omega arith in
    let q : v / 256 % 256 ≡ b = ap (λ (x : ℕ). x % 256) w ∙ low_digit b c lb in
    let r : v / 65536 ≡ c = omega arith in
    simp (ne_eqb v 0 (λ e. omega arith), lt-leb v 16 (omega arith), le-ltb v 0x80 (omega arith), le-ltb v 0x8000 l, lt-ltb v 0x800000 h, p, q, r)

spelled_4 : (v a b c d : ℕ) → a < 256 → b < 256 → c < 256 → v ≡ a + 256 * (b + 256 * (c + 256 * d)) → 8388608 ≤ v → number_bytes v ≡ 4 ∷ a ∷ b ∷ c ∷ d ∷ []
unfolding number_bytes digits
spelled_4 v a b c d la lb lc e l =
    let p : v % 256 ≡ a = omega arith in
    let w : v / 256 ≡ b + 256 * (c + 256 * d) = omega arith in
    let q : v / 256 % 256 ≡ b = ap (λ (x : ℕ). x % 256) w ∙ low_digit b (c + 256 * d) lb in
    let u : v / 65536 ≡ c + 256 * d = omega arith in
    let r : v / 65536 % 256 ≡ c = ap (λ (x : ℕ). x % 256) u ∙ low_digit c d lc in
    let t : v / 16777216 ≡ d = omega arith in
    simp (ne_eqb v 0 (λ e. omega arith), lt-leb v 16 (omega arith), le-ltb v 0x80 (omega arith), le-ltb v 0x8000 (omega arith), le-ltb v 0x800000 l, p, q, r, t)

large : (a : ℕ) → small a ≡ false → 1 ≤ a → 17 ≤ a
unfolding small
large a e l = split (leb a 16) refl
  where
    in_range_lem : (x : ℕ) → x ≤ 16 → 1 ≤ x → pick (eqb x 0x81) true (pick (leb 1 x) (leb x 16) false) ≡ false → ⊥
    in_range_lem x h k q = true≢false (sym (simp (ne_eqb x 0x81 (λ p. omega arith), le-leb 1 x k, le-leb x 16 h)) ∙ q)

    split : (b : Bool) → leb a 16 ≡ b → 17 ≤ a
    split true q = absurd (in_range_lem a (leb-true a 16 q) l e)
    split false q = leb-false a 16 q

-- ---- what is read as a number is its spelling
module _ (v : ℕ) where
  read_1 : (a : ℕ) → a < 128 → small a ≡ false → minimal (a ∷ []) ≡ true → little_endian (a ∷ []) ≡ v → number_bytes v ≡ 1 ∷ a ∷ []
  unfolding minimal
  read_1 a h s m e =
      let f : eqb (a % 128) 0 ≡ false = ⊎_elim (λ w. w) (λ w. absurd (true≢false (sym w))) (minimal_pick (eqb (a % 128) 0) false m) in
      let n : a % 128 ≡ 0 → ⊥ = eqb-false (a % 128) 0 f in
      let l : 17 ≤ a = large a s (let o : a ≡ 0 → ⊥ = (λ q. n (ap (λ (x : ℕ). x % 128) q)) in omega arith) in
      let u : v ≡ a = omega arith in
      subst (λ (x : ℕ). number_bytes x ≡ 1 ∷ a ∷ []) (sym u) (spelled_1 a l h)

  read_2 : (a b : ℕ) → a < 256 → b < 128 → minimal (a ∷ b ∷ []) ≡ true → little_endian (a ∷ b ∷ []) ≡ v → number_bytes v ≡ 2 ∷ a ∷ b ∷ []
  unfolding minimal
  read_2 a b la lb m e =
      ⊎_elim
      (λ w. let n : b % 128 ≡ 0 → ⊥ = eqb-false (b % 128) 0 w in let o : b ≡ 0 → ⊥ = (λ q. n (ap (λ (x : ℕ). x % 128) q)) in spelled_2 v a b la (omega arith) (omega arith) (omega arith))
      (λ w. let k : 128 ≤ a = leb-true 128 a w in spelled_2 v a b la (omega arith) (omega arith) (omega arith))
      (minimal_pick (eqb (b % 128) 0) (leb 128 a) m)

  read_3 : (a b c : ℕ) → a < 256 → b < 256 → c < 128 → minimal (a ∷ b ∷ c ∷ []) ≡ true → little_endian (a ∷ b ∷ c ∷ []) ≡ v → number_bytes v ≡ 3 ∷ a ∷ b ∷ c ∷ []
  unfolding minimal
  read_3 a b c la lb lc m e =
      ⊎_elim
      (λ w. let n : c % 128 ≡ 0 → ⊥ = eqb-false (c % 128) 0 w in let o : c ≡ 0 → ⊥ = (λ q. n (ap (λ (x : ℕ). x % 128) q)) in spelled_3 v a b c la lb (omega arith) (omega arith) (omega arith))
      (λ w. let k : 128 ≤ b = leb-true 128 b w in spelled_3 v a b c la lb (omega arith) (omega arith) (omega arith))
      (minimal_pick (eqb (c % 128) 0) (leb 128 b) m)

  read_4 : (a b c d : ℕ) → a < 256 → b < 256 → c < 256 → d < 128 → minimal (a ∷ b ∷ c ∷ d ∷ []) ≡ true → little_endian (a ∷ b ∷ c ∷ d ∷ []) ≡ v → number_bytes v ≡ 4 ∷ a ∷ b ∷ c ∷ d ∷ []
  unfolding minimal
  read_4 a b c d la lb lc ld m e =
      ⊎_elim
      (λ w. let n : d % 128 ≡ 0 → ⊥ = eqb-false (d % 128) 0 w in let o : d ≡ 0 → ⊥ = (λ q. n (ap (λ (x : ℕ). x % 128) q)) in spelled_4 v a b c d la lb lc (omega arith) (omega arith))
      (λ w. let k : 128 ≤ c = leb-true 128 c w in spelled_4 v a b c d la lb lc (omega arith) (omega arith))
      (minimal_pick (eqb (d % 128) 0) (leb 128 c) m)

zero_spelled : (w : ℕ) → 0 ≡ w → 0 ∷ [] ≡ number_bytes w
unfolding number_bytes
zero_spelled w q = ap number_bytes q

pub number_is_spelled : (d : List ℕ) (v : ℕ) → length d ≤ 4 → Bytes d → (length d ≡ 1 → small (get_or d 0 0) ≡ false) → number_of d ≡ Ok v → (push_bytes d ≡ number_bytes v) × (v < 2147483648)
number_is_spelled d v l b s e = by d l b s (number_read d v e)
  where
    by : (d : List ℕ) → length d ≤ 4 → Bytes d → (length d ≡ 1 → small (get_or d 0 0) ≡ false) → (minimal d ≡ true) × (leb 128 (last_byte d) ≡ false) × (little_endian d ≡ v) → (push_bytes d ≡ number_bytes v) × (v < 2147483648)
    by [] l b s r = let z : 0 ≡ v = r.2 in (zero_spelled v z, omega arith)
    by (a ∷ []) l b s r =
        let h : a < 128 = leb-false 128 a r.1 in let u : a + 256 * 0 ≡ v = r.2 in
        (sym (read_1 v a h (s refl) r.0 r.2), omega arith)
    by (a ∷ c ∷ []) l b s r =
        let h : c < 128 = leb-false 128 c r.1 in let u : a + 256 * (c + 256 * 0) ≡ v = r.2 in
        (sym (read_2 v a c (b 0) h r.0 r.2), omega (arith, b 0))
    by (a ∷ c ∷ d ∷ []) l b s r =
        let h : d < 128 = leb-false 128 d r.1 in let u : a + 256 * (c + 256 * (d + 256 * 0)) ≡ v = r.2 in
        (sym (read_3 v a c d (b 0) (b 1) h r.0 r.2), omega (arith, b 0, b 1))
    by (a ∷ c ∷ d ∷ e ∷ []) l b s r =
        let h : e < 128 = leb-false 128 e r.1 in let u : a + 256 * (c + 256 * (d + 256 * (e + 256 * 0))) ≡ v = r.2 in
        (sym (read_4 v a c d e (b 0) (b 1) (b 2) h r.0 r.2), omega (arith, b 0, b 1, b 2))
    by (a ∷ c ∷ d ∷ e ∷ f ∷ rest) l b s r = absurd (omega arith)

-- ---- and the spelling of a number from 17 on is read as that number
-- digits that are read as v
pub record Reads (v : ℕ) (d : List ℕ) : Type 0 where
  pub spelled : number_bytes v ≡ push_bytes d
  pub some : 1 ≤ length d
  pub few : length d ≤ 4
  pub bytes : Bytes d
  pub no_opcode : length d ≡ 1 → small (get_or d 0 0) ≡ false
  pub read : number_of d ≡ Ok v

not_small : (a : ℕ) → 17 ≤ a → a < 128 → small a ≡ false
unfolding small
not_small a l h = simp (ne_eqb a 0x81 (λ e. omega arith), le-leb 1 a (omega arith), lt-leb a 16 (omega arith))

read_is : (d : List ℕ) (v : ℕ) → minimal d ≡ true → last_byte d < 128 → little_endian d ≡ v → number_of d ≡ Ok v
unfolding number_of
read_is d v m h e = simp (m, lt-leb 128 (last_byte d) h) (ap Ok e)

last_counts : (b : ℕ) (t : Bool) → (b % 128 ≡ 0 → ⊥) → pick (eqb (b % 128) 0) t true ≡ true
last_counts b t h = simp (ne_eqb (b % 128) 0 h)

top_bit_needed : (b a : ℕ) → b % 128 ≡ 0 → 128 ≤ a → pick (eqb (b % 128) 0) (leb 128 a) true ≡ true
top_bit_needed b a e h = simp (eq-eqb (b % 128) 0 e, le-leb 128 a h)

-- by the last digit and the one before it
counts : (a b : ℕ) → b < 128 → 128 ≤ a + 256 * b → pick (eqb (b % 128) 0) (leb 128 a) true ≡ true
counts a b h l = split (leb 1 b) refl
  where
    split : (c : Bool) → leb 1 b ≡ c → pick (eqb (b % 128) 0) (leb 128 a) true ≡ true
    split true e = let k : 1 ≤ b = leb-true 1 b e in last_counts b (leb 128 a) (λ q. omega arith)
    split false e = let k : b < 1 = leb-false 1 b e in top_bit_needed b a (let z : b ≡ 0 = omega arith in ap (λ (x : ℕ). x % 128) z) (omega arith)

bytes_1 : (a : ℕ) → a < 256 → Bytes (a ∷ [])
bytes_1 a h zero = h
bytes_1 a h (suc i) = omega arith

pub bytes_more : (a : ℕ) (d : List ℕ) → a < 256 → Bytes d → Bytes (a ∷ d)
bytes_more a d h b zero = h
bytes_more a d h b (suc i) = b i

module _ (v : ℕ) where
  reads_1 : 17 ≤ v → v < 128 → Reads v (v ∷ [])
  unfolding minimal
  reads_1 l h =
      record {
        spelled = spelled_1 v l h;
        some = omega arith;
        few = omega arith;
        bytes = bytes_1 v (omega arith);
        no_opcode = λ _. not_small v l h;
        read = read_is (v ∷ []) v (last_counts v false (λ q. omega arith)) h (omega arith);
      }

  reads_2 : 128 ≤ v → v < 32768 → Reads v (v % 256 ∷ v / 256 ∷ [])
  unfolding minimal
  reads_2 l h =
      record {
        spelled = spelled_2 v (v % 256) (v / 256) (omega arith) (omega arith) l h;
        some = omega arith;
        few = omega arith;
        bytes = bytes_more (v % 256) (v / 256 ∷ []) (omega arith) (bytes_1 (v / 256) (omega arith));
        no_opcode = λ e. absurd (omega arith);
        read = read_is (v % 256 ∷ v / 256 ∷ []) v (counts (v % 256) (v / 256) (omega arith) (omega arith)) (omega arith) (omega arith);
      }

  reads_3 : 32768 ≤ v → v < 8388608 → Reads v (v % 256 ∷ v / 256 % 256 ∷ v / 65536 ∷ [])
  unfolding minimal
  reads_3 l h =
      record {
        spelled = spelled_3 v (v % 256) (v / 256 % 256) (v / 65536) (omega arith) (omega arith) (omega arith) l h;
        some = omega arith;
        few = omega arith;
        bytes = bytes_more (v % 256) (v / 256 % 256 ∷ v / 65536 ∷ []) (omega arith) (bytes_more (v / 256 % 256) (v / 65536 ∷ []) (omega arith) (bytes_1 (v / 65536) (omega arith)));
        no_opcode = λ e. absurd (omega arith);
        read = read_is (v % 256 ∷ v / 256 % 256 ∷ v / 65536 ∷ []) v (counts (v / 256 % 256) (v / 65536) (omega arith) (omega arith)) (omega arith) (omega arith);
      }

  reads_4 : 8388608 ≤ v → v < 2147483648 → Reads v (v % 256 ∷ v / 256 % 256 ∷ v / 65536 % 256 ∷ v / 16777216 ∷ [])
  unfolding minimal
  reads_4 l h =
      record {
        spelled = spelled_4 v (v % 256) (v / 256 % 256) (v / 65536 % 256) (v / 16777216) (omega arith) (omega arith) (omega arith) (omega arith) l;
        some = omega arith;
        few = omega arith;
        bytes = bytes_more (v % 256) (v / 256 % 256 ∷ v / 65536 % 256 ∷ v / 16777216 ∷ []) (omega arith) (bytes_more (v / 256 % 256) (v / 65536 % 256 ∷ v / 16777216 ∷ []) (omega arith) (bytes_more (v / 65536 % 256) (v / 16777216 ∷ []) (omega arith) (bytes_1 (v / 16777216) (omega arith))));
        no_opcode = λ e. absurd (omega arith);
        read = read_is (v % 256 ∷ v / 256 % 256 ∷ v / 65536 % 256 ∷ v / 16777216 ∷ []) v (counts (v / 65536 % 256) (v / 16777216) (omega arith) (omega arith)) (omega arith) (omega arith);
      }

  pub spelled_is_read : 17 ≤ v → v < 2147483648 → (d : List ℕ) × Reads v d
  spelled_is_read l h = one (ltb v 128) refl
    where
      three : (b : Bool) → ltb v 8388608 ≡ b → 32768 ≤ v → (d : List ℕ) × Reads v d
      three true e k = (_, reads_3 k (ltb-true v 8388608 e))
      three false e k = (_, reads_4 (ltb-false v 8388608 e) h)

      two : (b : Bool) → ltb v 32768 ≡ b → 128 ≤ v → (d : List ℕ) × Reads v d
      two true e k = (_, reads_2 k (ltb-true v 32768 e))
      two false e k = three (ltb v 8388608) refl (ltb-false v 32768 e)

      one : (b : Bool) → ltb v 128 ≡ b → (d : List ℕ) × Reads v d
      one true e = (_, reads_1 l (ltb-true v 128 e))
      one false e = two (ltb v 32768) refl (ltb-false v 128 e)
