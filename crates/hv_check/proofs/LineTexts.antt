-- What a text that begins with the line of an event begins with, and what stands behind that line.
use Rattle.std.proofs.Common.{◌≡◌, ℕ, ◌+◌, ◌<◌, ◌≢◌, ◌^◌, List, [], ◌∷◌, ◌++◌, refl, sym, ap, ◌∙◌, subst, arith, append_assoc, length, Bool, true, false, inl, inr, ◌≤◌, All, codes}
use Rattle.std.proofs.Common.{decimal, Global}
use Rattle.std.specs.Char.{digit_value}
use Rattle.std.specs.Str.Parse.{AllDigits, IsNumeral}
use Rattle.std.proofs.lemmas.Fmt.{decimal_is_IsNumeral}
use Rattle.std.proofs.lemmas.List.{append_cancel_left}
use Rattle.std.proofs.lemmas.List.Elements.{All-cons, All-head, All-nil, All-tail}
use Rattle.hv_history.specs.declared.entry.Entry.{Entry}
use Rattle.hv_policy.specs.declared.reply.Reply.{Reply}
use Rattle.hv_policy.specs.declared.reply.Reply.TheVariants.{Served, More, Denied, Fault}
use Rattle.hv_text.specs.Audit.{audit_text, caller_text, entries_text, entry_text, reply_text, what_text}
use Rattle.hv_check.specs.From.{IsNamedIn, IsNoEnd, IsNoLine}
use Rattle.hv_check.specs.Legal.{AreLines, IsLine, IsName, IsTail, bare_reply_text, bare_text, end_text}

abbrev pub Bytes : Type 0
Bytes = List ℕ

abbrev pub IsNot : ℕ → ℕ → Type 0
IsNot byte it = it ≢ byte

-- no digit is another byte
pub no_digit : (byte : ℕ) (digits : Bytes) → (digit_value byte < 10 → ⊥) → AllDigits 10 digits → All (IsNot byte) digits
no_digit byte [] none all = All-nil (IsNot byte)
no_digit byte (c ∷ digits) none all =
    All-cons (IsNot byte) c digits (λ same. none (subst (λ (x : ℕ). digit_value x < 10) same all.0)) (no_digit byte digits none all.1)

pub space : digit_value 32 < 10 → ⊥
space less = omega (arith, less)

pub dot : digit_value 46 < 10 → ⊥
dot less = omega (arith, less)

letter : digit_value 101 < 10 → ⊥
letter less = omega (arith, less)

-- A text of parts.
module _ (d s p o v w r t : Bytes) where
  regroup : (d ++ s ++ (p ++ o ++ v) ++ s ++ w ++ s ++ r) ++ t ≡ d ++ (s ++ (p ++ (o ++ (v ++ (s ++ (w ++ (s ++ (r ++ t))))))))
  regroup = simp append_assoc

module _ (number : ℕ) (e : Entry Global) where
  abbrev what : Bytes
  what = what_text e.event.what

  entry_parts : (t : Bytes) → entry_text number e ++ t
      ≡ decimal number ++ (codes " " ++ (decimal e.event.by.part ++ (codes "." ++ (decimal e.event.by.vp ++ (codes " " ++ (what ++ (codes " " ++ (reply_text e.event.what e.reply ++ t))))))))
  unfolding entry_text
  entry_parts t = regroup (decimal number) (codes " ") (decimal e.event.by.part) (codes ".") (decimal e.event.by.vp) what (reply_text e.event.what e.reply) t

  bare_parts : (t : Bytes) → bare_text number e ++ t
      ≡ decimal number ++ (codes " " ++ (decimal e.event.by.part ++ (codes "." ++ (decimal e.event.by.vp ++ (codes " " ++ (what ++ (codes " " ++ (bare_reply_text e.event.what e.reply ++ t))))))))
  unfolding bare_text
  bare_parts t = regroup (decimal number) (codes " ") (decimal e.event.by.part) (codes ".") (decimal e.event.by.vp) what (bare_reply_text e.event.what e.reply) t

  -- the text names the event's processor
  pub named_in : (rules : Bool) (text rest : Bytes) → number < 2 ^ 64 → e.event.by.part < 2 ^ 64 → e.event.by.vp < 2 ^ 32 → IsLine rules number e text rest → IsNamedIn text e.event.by
  named_in true text rest few part vp is = record {
    number = number;
    rest = what ++ (codes " " ++ (reply_text e.event.what e.reply ++ (codes "\n" ++ rest)));
    few = few;
    part = part;
    vp = vp;
    all = is ∙ entry_parts (codes "\n" ++ rest);
  }
  named_in false text rest few part vp is = record {
    number = number;
    rest = what ++ (codes " " ++ (bare_reply_text e.event.what e.reply ++ (is.tail ++ (codes "\n" ++ rest))));
    few = few;
    part = part;
    vp = vp;
    all = is.all ∙ bare_parts (is.tail ++ (codes "\n" ++ rest));
  }

  -- it begins with the number
  pub begins_with_number : (rules : Bool) (text rest : Bytes) → IsLine rules number e text rest → (more : Bytes) × (text ≡ decimal number ++ more)
  begins_with_number true text rest is = (
    codes " " ++ (decimal e.event.by.part ++ (codes "." ++ (decimal e.event.by.vp ++ (codes " " ++ (what ++ (codes " " ++ (reply_text e.event.what e.reply ++ (codes "\n" ++ rest)))))))),
    is ∙
        entry_parts (codes "\n" ++ rest),
  )
  begins_with_number false text rest is = (
    codes " " ++ (decimal e.event.by.part ++ (codes "." ++ (decimal e.event.by.vp ++ (codes " " ++
        (what ++ (codes " " ++ (bare_reply_text e.event.what e.reply ++ (is.tail ++ (codes "\n" ++ rest))))))))),
    is.all ∙ bare_parts (is.tail ++ (codes "\n" ++ rest)),
  )

-- so its first byte is a digit
first_digit : (digits more text : Bytes) → IsNumeral 10 digits → text ≡ digits ++ more → (c : ℕ) × (rest : Bytes) × (text ≡ c ∷ rest) × (digit_value c < 10)
first_digit [] more text is all = absurd (let some = is.0 in omega (arith, some))
first_digit (c ∷ digits) more text is all = (c, digits ++ more, all, is.1.0)

pub begins_with_digit : (rules : Bool) (number : ℕ) (e : Entry Global) (text rest : Bytes) → number < 2 ^ 64 → IsLine rules number e text rest → (c : ℕ) × (more : Bytes) × (text ≡ c ∷ more) ×
    (digit_value c < 10)
begins_with_digit rules number e text rest few is =
    let first = begins_with_number number e rules text rest is in
    first_digit (decimal number) first.0 text (decimal_is_IsNumeral number few).0 first.1

-- a text that is empty, or begins with a letter, is no line
pub no_line_none : IsNoLine []
no_line_none rules number e rest few is = let first = begins_with_digit rules number e [] rest few is in let same = first.2 in absurd (cc)

pub no_line_letter : (more : Bytes) → IsNoLine (101 ∷ more)
no_line_letter more rules number e rest few is =
    let first = begins_with_digit rules number e (101 ∷ more) rest few is in
    let same : first.0 ≡ 101 = let all = first.2 in cc in
    letter (subst (λ (c : ℕ). digit_value c < 10) same first.3)

pub no_line_end : (text rest : Bytes) → text ≡ codes "events " ++ rest → IsNoLine text
no_line_end text rest is = subst IsNoLine (sym is) (no_line_letter (codes "vents " ++ rest))

-- and one that doesn't begin as the last line does is no end
pub no_end : (text : Bytes) → text ≢ [] → ((rest : Bytes) → text ≡ codes "events " ++ rest → ⊥) → IsNoEnd text
no_end text some none false events is = none (decimal events ++ codes "\n") (is ∙ append_assoc (codes "events ") (decimal events) (codes "\n"))
no_end text some none true events (inl empty) = some empty
no_end text some none true events (inr is) = none (decimal events ++ codes "\n") (is ∙ append_assoc (codes "events ") (decimal events) (codes "\n"))

-- What stands behind a line is one text.
pub parted : (byte : ℕ) (xs ys cs bs : Bytes) → All (IsNot byte) xs → All (IsNot byte) ys → xs ++ byte ∷ cs ≡ ys ++ byte ∷ bs → (xs ≡ ys) × (cs ≡ bs)
parted byte [] [] cs bs p q is = (refl, cc)
parted byte [] (y ∷ ys) cs bs p q is = absurd (All-head (IsNot byte) y ys q (cc))
parted byte (x ∷ xs) [] cs bs p q is = absurd (All-head (IsNot byte) x xs p (cc))
parted byte (x ∷ xs) (y ∷ ys) cs bs p q is =
    let same : x ≡ y = cc in
    let rest = parted byte xs ys cs bs (All-tail (IsNot byte) x xs p) (All-tail (IsNot byte) y ys q) (let same : xs ++ byte ∷ cs ≡ ys ++ byte ∷ bs = cc in same) in
    ((λ i. same i ∷ rest.0 i), rest.1)

-- a rule's name has no line feed
name_all : (tail : Bytes) → IsName tail → All (IsNot 10) tail
name_all tail (inl none) = subst (All (IsNot 10)) (sym none) (All-nil (IsNot 10))
name_all tail (inr some) = subst (All (IsNot 10)) (sym some.1) (All-cons (IsNot 10) 32 some.0 (λ same. absurd (omega (arith, same))) some.2)

tail_all : (reply : Reply) (tail : Bytes) → IsTail reply tail → All (IsNot 10) tail
tail_all (Served output) tail none = subst (All (IsNot 10)) (sym none) (All-nil (IsNot 10))
tail_all (More next output) tail none = subst (All (IsNot 10)) (sym none) (All-nil (IsNot 10))
tail_all (Denied rule status reps) tail is = name_all tail is
tail_all (Fault rule) tail is = name_all tail is

pub one_rest : (rules : Bool) (number : ℕ) (e : Entry Global) (text one other : Bytes) → IsLine rules number e text one → IsLine rules number e text other → one ≡ other
one_rest true number e text one other p q =
    let same : codes "\n" ++ one ≡ codes "\n" ++ other = append_cancel_left (entry_text number e) (codes "\n" ++ one) (codes "\n" ++ other) (sym p ∙ q) in cc
one_rest false number e text one other p q =
    (parted 10 p.tail q.tail one other (tail_all e.reply p.tail p.name) (tail_all e.reply q.tail q.name)
    (append_cancel_left (bare_text number e) (p.tail ++ 10 ∷ one) (q.tail ++ 10 ∷ other) (sym p.all ∙ q.all))).1

-- The line of an event without the name of a rule.
module _ (number : ℕ) (e : Entry Global) where
  abbrev pub front : Bytes
  front = decimal number ++ codes " " ++ caller_text e.event.by ++ codes " " ++ what_text e.event.what ++ codes " "

  pub entry_front : entry_text number e ≡ front ++ reply_text e.event.what e.reply
  unfolding entry_text
  entry_front = refl

  pub bare_front : bare_text number e ≡ front ++ bare_reply_text e.event.what e.reply
  unfolding bare_text
  bare_front = refl

  served_same : (output : Bytes) → e.reply ≡ Served output → bare_text number e ≡ entry_text number e
  served_same output is =
      bare_front ∙ ap (λ (r : Reply). front ++ bare_reply_text e.event.what r) is ∙ ap (λ (r : Reply). front ++ reply_text e.event.what r) (sym is) ∙ sym entry_front

  more_same : (next : ℕ) (output : Bytes) → e.reply ≡ More next output → bare_text number e ≡ entry_text number e
  more_same next output is =
      bare_front ∙ ap (λ (r : Reply). front ++ bare_reply_text e.event.what r) is ∙ ap (λ (r : Reply). front ++ reply_text e.event.what r) (sym is) ∙ sym entry_front

-- the lines and the end, as one text
pub lines_text : (before : ℕ) (es : List (Entry Global)) (text : Bytes) → AreLines false true before es text → text ≡ entries_text (before + 1) es ++ end_text (before + length es)
lines_text before [] text is = is ∙ ap end_text (omega arith)
lines_text before (e ∷ es) text is =
    let rest = lines_text (before + 1) es is.0 is.2 in
    let count : before + 1 + length es ≡ before + length (e ∷ es) = omega arith in
    is.1 ∙ ap (λ (l : Bytes). entry_text (before + 1) e ++ (codes "\n" ++ l)) (rest ∙ ap (λ (n : ℕ). entries_text (before + 1 + 1) es ++ end_text n) count)
    ∙ regroup_line (entry_text (before + 1) e) (codes "\n") (entries_text (before + 1 + 1) es) (end_text (before + length (e ∷ es)))
  where
    regroup_line : (a b c d : Bytes) → a ++ (b ++ (c ++ d)) ≡ ((a ++ b) ++ c) ++ d
    regroup_line a b c d = simp append_assoc

pub text_lines : (before : ℕ) (es : List (Entry Global)) (text : Bytes) → text ≡ entries_text (before + 1) es ++ end_text (before + length es) → AreLines false true before es text
text_lines before [] text is = is ∙ ap end_text (omega arith)
text_lines before (e ∷ es) text is =
    let count : before + length (e ∷ es) ≡ before + 1 + length es = omega arith in (
      entries_text (before + 1 + 1) es ++ end_text (before + length (e ∷ es)),
      is ∙ regroup_line (entry_text (before + 1) e) (codes "\n") (entries_text (before + 1 + 1) es) (end_text (before + length (e ∷ es))),
      text_lines (before + 1) es (entries_text (before + 1 + 1) es ++ end_text (before + length (e ∷ es))) (ap (λ (n : ℕ). entries_text (before + 1 + 1) es ++ end_text n) count),
    )
  where
    regroup_line : (a b c d : Bytes) → ((a ++ b) ++ c) ++ d ≡ a ++ (b ++ (c ++ d))
    regroup_line a b c d = simp append_assoc

-- which is that of an audit
pub audit_parts : (es : List (Entry Global)) → audit_text es ≡ entries_text 1 es ++ end_text (length es)
unfolding audit_text
audit_parts es = regroup_end (entries_text 1 es) (codes "events ") (decimal (length es)) (codes "\n")
  where
    regroup_end : (a b c d : Bytes) → ((a ++ b) ++ c) ++ d ≡ a ++ ((b ++ c) ++ d)
    regroup_end a b c d = simp append_assoc
