-- THEOREM: an output to which lexemes are written one after the other ends with their spelling. Assumes nothing.
-- Why: a lexeme is spelled by itself unless it is a VERIFY behind an opcode that has a fused form, and VERIFY itself has none; so what is spelled of all lexemes is the bytes so far and the spelling of the rest, with the last opcode counted to the rest as long as a VERIFY may follow.
use mathlib.Core.Path.{◌≡◌, refl, sym, ap, ◌∙◌}
use mathlib.Core.Bool.{Bool, true, false, true≢false}
use mathlib.Core.List.{List, [], ◌∷◌, ◌++◌, append_assoc, append-nil}
use Prim.Native.Nat.{ℕ, ◌+◌, ◌-◌, ◌≤◌}
use native.Mathlib.Omega.{arith}
use lib.Dec.{eqb}
use lib.ListN.{length, set, drop, length-append, length-drop}
use lib.Seq.{take-append_seam, drop-append-add, drop-drop, append_snoc, set-append_seam}
use borrow.Author.Tests.{eqb-true}
use Rattle.tables.specs.Choose.{pick}
use Rattle.tables.specs.Tables.{flat, put_at}
use Rattle.tables.proofs.BoolLaws.{picked_both}
use Rattle.tables.proofs.PutLaws.{put_parts}
use Rattle.lex.specs.Token.{VERIFY, Lexeme, op, num, push}
use Rattle.spelling.specs.Spell.{opcode_byte, has_fused, fused_byte, instruction_bytes, verified_bytes, is_verify, is_fusible, fuses, spelling, spell}
use Rattle.spelling.proofs.SpellingLexes.{number_some}
use Rattle.emit.specs.declared.Pen.{Pen}
use Rattle.emit.specs.Emission.{pen, fusing, inked, penned, Coded, Room, inked_all, penned_all, RoomForAll}

-- Spelling, from the front

not_fusible : (l : Lexeme) (rest : List Lexeme) → is_fusible l ≡ false → spell (l ∷ rest) ≡ instruction_bytes l ++ spell rest
unfolding spell
not_fusible l [] e = refl
not_fusible l (m ∷ rest) e = rw e refl

both_false : {A : Type 0} (b : Bool) (x y : A) → pick (pick b false false) x y ≡ y
both_false true x y = refl
both_false false x y = refl

not_verify : (l m : Lexeme) (rest : List Lexeme) → is_verify m ≡ false → spell (l ∷ m ∷ rest) ≡ instruction_bytes l ++ spell (m ∷ rest)
unfolding spell
not_verify l m rest e = rw e (ap flat (both_false (is_fusible l) (verified_bytes l ∷ spelling rest) (instruction_bytes l ∷ spelling (m ∷ rest))))

verified : (l m : Lexeme) (rest : List Lexeme) → is_fusible l ≡ true → is_verify m ≡ true → spell (l ∷ m ∷ rest) ≡ verified_bytes l ++ spell rest
unfolding spell
verified l m rest e f = rw (e, f) refl

-- an opcode has a byte at least
starts : (code : ℕ) (rest : List Lexeme) → 1 ≤ length (spell (op code ∷ rest))
unfolding spell
starts code [] = omega arith
starts code (m ∷ rest) = by (fuses (op code) m)
  where
    by : (b : Bool) → 1 ≤ length (flat (pick b (verified_bytes (op code) ∷ spelling rest) (instruction_bytes (op code) ∷ spelling (m ∷ rest))))
    by true = omega arith
    by false = omega arith

-- The bytes so far, and what is still to come

-- the code of an opcode, 0 of a number or a push
abbrev pub code_of : Lexeme → ℕ
code_of (op code) = code
code_of (num n) = 0
code_of (push code d) = 0

-- either no VERIFY is written as one with the last lexeme, or the last byte is that of an opcode that may still be fused
pub data Leads (all bytes : List ℕ) (last : ℕ) (rest : List Lexeme) : Type 0 where
  settled : has_fused last ≡ false → all ≡ bytes ++ spell rest → Leads all bytes last rest
  unsettled : (front : List ℕ) → has_fused last ≡ true → bytes ≡ front ++ (opcode_byte last ∷ []) → all ≡ front ++ spell (op last ∷ rest) → Leads all bytes last rest

within_all : {all bytes : List ℕ} {last : ℕ} {rest : List Lexeme} → Leads all bytes last rest → length bytes ≤ length all
within_all {all} {bytes} {last} {rest} (settled e f) = omega (arith, ap length f, length-append bytes (spell rest))
within_all {all} {bytes} {last} {rest} (unsettled front e b f) =
    omega (arith, ap length f, ap length b, length-append front (spell (op last ∷ rest)), length-append front (opcode_byte last ∷ []), starts last rest)

code_fusible : (l : Lexeme) → is_fusible l ≡ false → has_fused (code_of l) ≡ false
unfolding has_fused
code_fusible (op code) e = e
code_fusible (num n) e = refl
code_fusible (push code d) e = refl

module _ (all bytes : List ℕ) where
  -- one lexeme more, written by itself
  appended : (l : Lexeme) (rest : List Lexeme) → all ≡ bytes ++ spell (l ∷ rest) → Leads all (bytes ++ instruction_bytes l) (code_of l) rest
  appended l rest e = by l (is_fusible l) refl e
    where
      by : (l : Lexeme) (b : Bool) → is_fusible l ≡ b → all ≡ bytes ++ spell (l ∷ rest) → Leads all (bytes ++ instruction_bytes l) (code_of l) rest
      by l false f e =
          settled (code_fusible l f)
          (e ∙ ap (λ (x : List ℕ). bytes ++ x) (not_fusible l rest f) ∙ sym (append_assoc bytes (instruction_bytes l) (spell rest)))
      by (op code) true f e = unsettled bytes f refl e
      by (num n) true f e = absurd (true≢false (sym f))
      by (push code d) true f e = absurd (true≢false (sym f))

  -- a lexeme that isn't fused comes behind the bytes so far
  apart : {last : ℕ} {l : Lexeme} {rest : List Lexeme} → Leads all bytes last (l ∷ rest) → fuses (op last) l ≡ false → all ≡ bytes ++ spell (l ∷ rest)
  apart {last} {l} {rest} (settled e f) n = f
  apart {last} {l} {rest} (unsettled front e b f) n =
      let v : is_verify l ≡ false = rw e at n in
      f
      ∙ ap (λ (x : List ℕ). front ++ x) (not_verify (op last) l rest v)
      ∙ sym (append_snoc front (opcode_byte last) (spell (l ∷ rest)))
      ∙ ap (λ (x : List ℕ). x ++ spell (l ∷ rest)) (sym b)

verify_code : (code : ℕ) → eqb code VERIFY ≡ true → has_fused code ≡ false
unfolding has_fused
verify_code code h = rw (eqb-true code VERIFY h) refl

-- The output

pub record Wrote (before all out : List ℕ) (p : Pen) (rest : List Lexeme) : Type 0 where
  pub bytes : List ℕ
  pub holds : out ≡ bytes ++ drop (length bytes) before
  pub at_is : p.at ≡ length bytes
  pub leads : Leads all bytes p.last rest
  pub fits : length all ≤ length before

module _ (before : List ℕ) where
  holds_length : (bytes : List ℕ) → length bytes ≤ length before → length (bytes ++ drop (length bytes) before) ≡ length before
  holds_length bytes h = omega (arith, length-append bytes (drop (length bytes) before), length-drop (length bytes) before)

  -- bytes behind those that stand there
  put_behind : (bytes xs : List ℕ) → length (bytes ++ xs) ≤ length before → put_at (bytes ++ drop (length bytes) before) (length bytes) xs ≡ (bytes ++ xs) ++ drop (length (bytes ++ xs)) before
  put_behind bytes xs h =
      let l : length (bytes ++ xs) ≡ length bytes + length xs = length-append bytes xs in
      let w : length (bytes ++ drop (length bytes) before) ≡ length before = holds_length bytes (omega arith) in
      put_parts (bytes ++ drop (length bytes) before) (length bytes) xs (omega arith)
      ∙ ap (λ (a : List ℕ). (a ++ xs) ++ drop (length bytes + length xs) (bytes ++ drop (length bytes) before)) (take-append_seam bytes (drop (length bytes) before))
      ∙ ap (λ (a : List ℕ). (bytes ++ xs) ++ a)
      (drop-append-add bytes (drop (length bytes) before) (length xs) ∙ drop-drop (length xs) (length bytes) before ∙ ap (λ (k : ℕ). drop k before) (sym l))

  -- another byte in place of the last
  put_last : (front : List ℕ) (x y : ℕ) → set ((front ++ (x ∷ [])) ++ drop (length (front ++ (x ∷ []))) before) (length (front ++ (x ∷ [])) - 1) y ≡ (front ++ (y ∷ [])) ++ drop (length (front ++ (y ∷ []))) before
  put_last front x y =
      let a : length (front ++ (x ∷ [])) ≡ length front + 1 = length-append front (x ∷ []) in
      let b : length (front ++ (y ∷ [])) ≡ length front + 1 = length-append front (y ∷ []) in
      let e : length (front ++ (x ∷ [])) - 1 ≡ length front = omega arith in
      let f : length (front ++ (x ∷ [])) ≡ length (front ++ (y ∷ [])) = a ∙ sym b in
      ap (λ (k : ℕ). set ((front ++ (x ∷ [])) ++ drop (length (front ++ (x ∷ []))) before) k y) e
      ∙ ap (λ (t : List ℕ). set t (length front) y) (append_snoc front x (drop (length (front ++ (x ∷ []))) before))
      ∙ set-append_seam front x (drop (length (front ++ (x ∷ []))) before) y
      ∙ sym (append_snoc front y (drop (length (front ++ (x ∷ []))) before))
      ∙ ap (λ (k : ℕ). (front ++ (y ∷ [])) ++ drop k before) f

module _ {before all out : List ℕ} {p : Pen} {rest : List Lexeme} (w : Wrote before all out p rest) where
  within_before : length w.bytes ≤ length before
  within_before = omega (arith, within_all w.leads, w.fits)

  pub wrote_length : length out ≡ length before
  wrote_length = ap length w.holds ∙ holds_length before w.bytes within_before

  at_within : p.at ≤ length before
  at_within = omega (arith, within_before, w.at_is)

neither : (b : Bool) → pick b false false ≡ false
neither true = refl
neither false = refl

module _ {before all out : List ℕ} {p : Pen} where
  -- a lexeme written by itself
  written_apart : (l : Lexeme) (rest : List Lexeme) → Wrote before all out p (l ∷ rest) → fuses (op p.last) l ≡ false
      → Wrote before all (put_at out p.at (instruction_bytes l)) (pen (p.at + length (instruction_bytes l)) (code_of l)) rest
  written_apart l rest w n =
      let next : Leads all (w.bytes ++ instruction_bytes l) (code_of l) rest = appended all w.bytes l rest (apart all w.bytes w.leads n) in
      let inside : length (w.bytes ++ instruction_bytes l) ≤ length before = omega (arith, within_all next, w.fits) in
      record {
        bytes = w.bytes ++ instruction_bytes l;
        holds =
            ap (λ (t : List ℕ). put_at t p.at (instruction_bytes l)) w.holds
            ∙ ap (λ (k : ℕ). put_at (w.bytes ++ drop (length w.bytes) before) k (instruction_bytes l)) w.at_is
            ∙ put_behind before w.bytes (instruction_bytes l) inside;
        at_is = omega (arith, w.at_is, length-append w.bytes (instruction_bytes l));
        leads = next;
        fits = w.fits;
      }

  -- a VERIFY written as one with the opcode before it
  written_fused : (code : ℕ) (rest : List Lexeme) → Wrote before all out p (op code ∷ rest) → fusing p.last code ≡ true
      → (1 ≤ p.at) × Wrote before all (put_at out (p.at - 1) (fused_byte p.last ∷ [])) (pen p.at code) rest
  written_fused code rest w n = by w.leads
    where
      by : Leads all w.bytes p.last (op code ∷ rest) → (1 ≤ p.at) × Wrote before all (put_at out (p.at - 1) (fused_byte p.last ∷ [])) (pen p.at code) rest
      by (settled e f) = absurd (true≢false (sym (picked_both (has_fused p.last) (eqb code VERIFY) n).0 ∙ e))
      by (unsettled front e b f) =
          let a : length (front ++ (opcode_byte p.last ∷ [])) ≡ length front + 1 = length-append front (opcode_byte p.last ∷ []) in
          let d : length (front ++ (fused_byte p.last ∷ [])) ≡ length front + 1 = length-append front (fused_byte p.last ∷ []) in
          let at : p.at ≡ length (front ++ (opcode_byte p.last ∷ [])) = w.at_is ∙ ap length b in (
            omega arith,
            record {
              bytes = front ++ (fused_byte p.last ∷ []);
              holds =
                  ap (λ (t : List ℕ). set t (p.at - 1) (fused_byte p.last)) (w.holds ∙ ap (λ (t : List ℕ). t ++ drop (length t) before) b)
                  ∙ ap (λ (k : ℕ). set ((front ++ (opcode_byte p.last ∷ [])) ++ drop (length (front ++ (opcode_byte p.last ∷ []))) before) (k - 1) (fused_byte p.last)) at
                  ∙ put_last before front (opcode_byte p.last) (fused_byte p.last);
              at_is = omega arith;
              leads =
                  settled (verify_code code (picked_both (has_fused p.last) (eqb code VERIFY) n).1)
                  (f ∙ ap (λ (x : List ℕ). front ++ x) (verified (op p.last) (op code) rest e (picked_both (has_fused p.last) (eqb code VERIFY) n).1) ∙ sym (append_snoc front (fused_byte p.last) (spell rest)));
              fits = w.fits;
            },
          )

  stepped : (l : Lexeme) (rest : List Lexeme) → Wrote before all out p (l ∷ rest) → (1 ≤ (penned p l).at) × Wrote before all (inked out p l) (penned p l) rest
  stepped (num n) rest w = (omega (arith, number_some n), written_apart (num n) rest w (neither (has_fused p.last)))
  stepped (push code d) rest w = (omega arith, written_apart (push code d) rest w (neither (has_fused p.last)))
  stepped (op code) rest w = by (fusing p.last code) refl
    where
      by : (b : Bool) → fusing p.last code ≡ b
          → (1 ≤ pick b p.at (p.at + 1))
          × Wrote before all (pick b (put_at out (p.at - 1) (fused_byte p.last ∷ [])) (put_at out p.at (opcode_byte code ∷ []))) (pen (pick b p.at (p.at + 1)) code) rest
      by true e = written_fused code rest w e
      by false e = (omega arith, written_apart (op code) rest w e)

  -- THEOREM: one lexeme more
  pub wrote_more : (l : Lexeme) (rest : List Lexeme) → Wrote before all out p (l ∷ rest) → Wrote before all (inked out p l) (penned p l) rest
  wrote_more l rest w = (stepped l rest w).1

  -- and there is room for it
  pub wrote_room : (l : Lexeme) (rest : List Lexeme) → Wrote before all out p (l ∷ rest) → Coded l → Room (length before) p l
  wrote_room l rest w c = record { some_bytes = (stepped l rest w).0; fits = at_within (stepped l rest w).1; coded = c }

  -- THEOREM: nothing more to write
  pub wrote_all_of_it : Wrote before all out p [] → (out ≡ all ++ drop (length all) before) × (p.at ≡ length all)
  unfolding spell
  wrote_all_of_it w =
      let e : w.bytes ≡ all = by w.leads in
      (w.holds ∙ ap (λ (t : List ℕ). t ++ drop (length t) before) e, w.at_is ∙ ap length e)
    where
      by : Leads all w.bytes p.last [] → w.bytes ≡ all
      by (settled e f) = sym (f ∙ append-nil w.bytes)
      by (unsettled front e b f) = b ∙ sym f

-- nothing written yet
pub wrote_nothing : (before : List ℕ) (ls : List Lexeme) → length (spell ls) ≤ length before → Wrote before (spell ls) before (pen 0 0) ls
unfolding has_fused
wrote_nothing before ls h = record { bytes = []; holds = refl; at_is = refl; leads = settled refl refl; fits = h }

-- Several, one after the other

abbrev pub AllCoded : List Lexeme → Type 0
AllCoded [] = Unit {0}
AllCoded (l ∷ ls) = Coded l × AllCoded ls

pub wrote_several : {before all out : List ℕ} {p : Pen} (ls rest : List Lexeme) → Wrote before all out p (ls ++ rest) → AllCoded ls
    → RoomForAll (length before) p ls × Wrote before all (inked_all out p ls) (penned_all p ls) rest
wrote_several [] rest w c = (tt, w)
wrote_several {before = before} {all = all} {out = out} {p = p} (l ∷ ls) rest w c =
    let m = wrote_several {out = inked out p l} {p = penned p l} ls rest (wrote_more l (ls ++ rest) w) c.1 in
    ((wrote_room l (ls ++ rest) w c.0, m.0), m.1)
