-- Each line that was written whole is a told line.
use Rattle.std.proofs.Common.{◌≡◌, ℕ, List, [], ◌∷◌, ◌++◌, Bool, true, false, if◌then◌else◌, refl, sym, ap, ◌∙◌, subst, codes, inl, inr}
use Rattle.std.specs.Prelude.{nat_eq, not}
use Rattle.hol_model.specs.Logic.Theory.{Theory}
use Rattle.hol_model.specs.Logic.Derivable.{IsMember}
use Rattle.hol_model.specs.Logic.Logic.{logical_definitions}
use Rattle.hol_model.specs.Texts.Texts.{is_one_line}
use Rattle.hol_model.proofs.Tests.{second_of_both}
use Rattle.hol_model_sessions.specs.Headline.{IsTold, AreTold}
use Rattle.hol_laws_sessions.specs.HeadlineLaws.{IsLine, with_byte, cut_in_lines, IsToldLater, WrittenLinesAreTold}
use Rattle.hol_laws_sessions.proofs.OutputLines.{told-lines}
use Rattle.hol_laws_sessions.proofs.ToldRuns.{twice-grown}

-- line for line, the lines that end are the same
abbrev Agree : List (List ℕ) → List (List ℕ) → Type 0
Agree [] others = Unit {0}
Agree (line ∷ lines) [] = ⊥
Agree (line ∷ lines) (other ∷ others) = (IsLine line → line ≡ other) × Agree lines others

line-behind : (byte : ℕ) (line : List ℕ) → nat_eq byte 10 ≡ false → IsLine (byte ∷ line) → IsLine line
line-behind byte line other is = go is.front is.one_line is.ended
  where
    go : (front : List ℕ) → is_one_line front ≡ true → byte ∷ line ≡ front ++ codes "\n" → IsLine line
    go [] one same =
        let feed : byte ≡ 10 = cc in
        let bad : nat_eq byte 10 ≡ true = ap (λ (b : ℕ). nat_eq b 10) feed in
        cc
    go (first ∷ front) one same = record { front = front; one_line = second_of_both (not (nat_eq first 10)) (is_one_line front) one; ended = cc }

no_line : IsLine [] → ⊥
no_line is = go is.front is.ended
  where
    go : (front : List ℕ) → [] ≡ front ++ codes "\n" → ⊥
    go [] same = cc
    go (first ∷ front) same = cc

agree-byte : (byte : ℕ) (lines others : List (List ℕ)) → nat_eq byte 10 ≡ false → Agree lines others → Agree (with_byte byte lines) (with_byte byte others)
agree-byte byte [] [] no_feed agree = (λ is. refl, tt)
agree-byte byte [] (other ∷ others) no_feed agree = (λ is. absurd (no_line (line-behind byte [] no_feed is)), tt)
agree-byte byte (line ∷ lines) [] no_feed agree = absurd agree
agree-byte byte (line ∷ lines) (other ∷ others) no_feed agree = (λ is. ap (λ (l : List ℕ). byte ∷ l) (agree.0 (line-behind byte line no_feed is)), agree.1)

agree-front : (front rest : List ℕ) → Agree (cut_in_lines front) (cut_in_lines (front ++ rest))
agree-front [] rest = tt
agree-front (byte ∷ bytes) rest = go (nat_eq byte 10) refl (agree-front bytes rest)
  where
    go : (test : Bool) → nat_eq byte 10 ≡ test → Agree (cut_in_lines bytes) (cut_in_lines (bytes ++ rest))
        → Agree (if test then (byte ∷ []) ∷ cut_in_lines bytes else with_byte byte (cut_in_lines bytes))
        (if test then (byte ∷ []) ∷ cut_in_lines (bytes ++ rest) else with_byte byte (cut_in_lines (bytes ++ rest)))
    go true is agree = (λ line. refl, agree)
    go false is agree = agree-byte byte (cut_in_lines bytes) (cut_in_lines (bytes ++ rest)) is agree

member-agrees : (line : List ℕ) (lines others : List (List ℕ)) → Agree lines others → IsMember line lines → IsLine line → IsMember line others
member-agrees line [] others agree there is = absurd there
member-agrees line (first ∷ lines) [] agree there is = absurd agree
member-agrees line (first ∷ lines) (other ∷ others) agree (inl same) is = inl (same ∙ agree.0 (subst IsLine same is))
member-agrees line (first ∷ lines) (other ∷ others) agree (inr later) is = inr (member-agrees line lines others agree.1 later is)

module _ (texts : List (List ℕ)) where
  member-told : (theory : Theory) (lines : List (List ℕ)) → AreTold texts theory lines → (line : List ℕ) → IsMember line lines → IsToldLater texts theory line
  member-told theory [] told line there = absurd there
  member-told theory (first ∷ lines) told line (inl same) = record { now = told.0; grown = told.1; told = subst (IsTold texts told.0) (sym same) told.2 }
  member-told theory (first ∷ lines) told line (inr later) =
      let more = member-told told.0 lines told.3 line later in
      record { now = more.now; grown = twice-grown texts theory told.0 more.now told.1 more.grown; told = more.told }

pub written-told : WrittenLinesAreTold
written-told input before after unwritten tells line there is =
    let whole : cut_in_lines (tells.front ++ unwritten) ≡ tells.lines =
    ap cut_in_lines (sym tells.whole) ∙ told-lines.cut tells.pieces logical_definitions tells.lines tells.told in
    let member = member-agrees line (cut_in_lines tells.front) (cut_in_lines (tells.front ++ unwritten)) (agree-front tells.front unwritten) there is in
    member-told tells.pieces logical_definitions tells.lines tells.told line (subst (IsMember line) whole member)
