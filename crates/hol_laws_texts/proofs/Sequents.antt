-- A told line that is read as a sequent behind a name is the line of that sequent's theorem.
use Rattle.std.proofs.Common.{◌≡◌, ℕ, List, [], ◌∷◌, ◌++◌, true, false, Result, Ok, refl, sym, ap, ◌∙◌, subst, append_assoc, codes}
use Rattle.std.specs.Prelude.{◌||◌, drop}
use Rattle.std.proofs.lemmas.List.{append_cancel_right}
use Rattle.hol_model.specs.declared.fault.Fault.{Fault}
use Rattle.hol_model.specs.Terms.Name.{is_capital, is_small, continues_name, all_continue, is_identifier}
use Rattle.hol_model.specs.Terms.NamedTerm.{NamedTerm}
use Rattle.hol_model.specs.Terms.Nameless.{image}
use Rattle.hol_model.specs.Logic.Theory.{Theory}
use Rattle.hol_model.specs.Texts.Reading.{Scope}
use Rattle.hol_model.specs.Texts.Texts.{text_of_sequent}
use Rattle.hol_model.specs.Texts.Scopes.{scope_over}
use Rattle.hol_model.specs.Texts.SequentGrammar.{sequent_meaning, ReadsSequent}
use Rattle.hol_model.proofs.Tests.{first_of_both, second_of_both}
use Rattle.hol_model_sessions.specs.Headline.{IsTheoremLine}
use Rattle.hol_laws_sessions.specs.HeadlineLaws.{BeginsAsTheorem, TheoremsAreSeen, WrittenLinesAreTold, NoLineIsFalsity}
use Rattle.hol_syntax.specs.UniqueSequents.{SequentsAreUnambiguous}
use Rattle.hol_laws_texts.specs.Readings.{ReadsAsTheorem, IsTrueOver, LinesTellTheirSequents, NoLineReadsAsFalsity, WrittenTheoremsAreTrue}

identifier-continues : (name : List ℕ) → is_identifier name ≡ true → all_continue name ≡ true
identifier-continues [] is = refl
identifier-continues (byte ∷ bytes) is =
    let letter : (is_capital byte || is_small byte) ≡ true = first_of_both (is_capital byte || is_small byte) (all_continue bytes) is in
    let first : continues_name byte ≡ true = rw letter refl in
    rw (first, second_of_both (is_capital byte || is_small byte) (all_continue bytes) is) refl

-- a text is cut in one way at the colon behind its name
name-cut : (a b x y : List ℕ) → all_continue a ≡ true → all_continue b ≡ true → a ++ 58 ∷ x ≡ b ++ 58 ∷ y → x ≡ y
name-cut [] [] x y all_a all_b same = cc
name-cut [] (byte ∷ b) x y all_a all_b same =
    let colon : 58 ≡ byte = cc in
    let first : continues_name byte ≡ true = first_of_both (continues_name byte) (all_continue b) all_b in
    let bad : false ≡ true = ap continues_name colon ∙ first in
    cc
name-cut (byte ∷ a) [] x y all_a all_b same =
    let colon : 58 ≡ byte = cc in
    let first : continues_name byte ≡ true = first_of_both (continues_name byte) (all_continue a) all_a in
    let bad : false ≡ true = ap continues_name colon ∙ first in
    cc
name-cut (byte ∷ a) (other ∷ b) x y all_a all_b same =
    let behind : a ++ 58 ∷ x ≡ b ++ 58 ∷ y = cc in
    name-cut a b x y (second_of_both (continues_name byte) (all_continue a) all_a) (second_of_both (continues_name other) (all_continue b) all_b) behind

theorem-spelled : (name text : List ℕ) → name ++ codes ": " ++ text ++ codes "\n" ≡ name ++ 58 ∷ (32 ∷ (text ++ codes "\n"))
theorem-spelled name text = append_assoc (name ++ codes ": ") text (codes "\n") ∙ append_assoc name (codes ": ") (text ++ codes "\n")

text-same : (name other text more : List ℕ) → is_identifier name ≡ true → is_identifier other ≡ true → name ++ codes ": " ++ text ++ codes "\n" ≡ other ++ codes ": " ++ more ++ codes "\n"
    → text ≡ more
text-same name other text more named other_named same =
    let behind = name-cut name other (32 ∷ (text ++ codes "\n")) (32 ∷ (more ++ codes "\n")) (identifier-continues name named) (identifier-continues other other_named)
    (sym (theorem-spelled name text) ∙ same ∙ theorem-spelled other more) in
    append_cancel_right text more (codes "\n") (ap (drop 1) behind)

-- a text is read as one sequent
reading-same : SequentsAreUnambiguous → (scope : Scope) (text : List ℕ) (a b : List NamedTerm × NamedTerm) → ReadsSequent scope text a → ReadsSequent scope text b → a ≡ b
reading-same unique scope text a b h k =
    let tree = unique text h.0 k.0 h.1 k.1 in
    let same : ◌≡◌ {A = Result (List NamedTerm × NamedTerm) Fault} (Ok a) (Ok b) = sym h.2 ∙ ap (sequent_meaning scope) tree ∙ k.2 in
    cc

-- a theorem's line is read as its sequent
theorem-reads : (theory : Theory) (line : List ℕ) (is : IsTheoremLine theory line) → ReadsAsTheorem theory line (is.theorem.hypotheses, is.theorem.conclusion)
theorem-reads theory line is = record {
  name = is.name;
  text = text_of_sequent (scope_over theory) is.theorem.hypotheses is.theorem.conclusion;
  named = is.named;
  spelled = is.spelled;
  read = is.reads_back;
}

theorem-true : (theory : Theory) (line : List ℕ) (is : IsTheoremLine theory line) → IsTrueOver theory (is.theorem.hypotheses, is.theorem.conclusion)
theorem-true theory line is = record { legal = is.legal; derivable = is.derivable; holds = is.holds }

reads-begins : (theory : Theory) (line : List ℕ) (sequent : List NamedTerm × NamedTerm) → ReadsAsTheorem theory line sequent → BeginsAsTheorem line
reads-begins theory line sequent reads = record {
  name = reads.name;
  rest = reads.text ++ codes "\n";
  named = reads.named;
  spelled = reads.spelled ∙ append_assoc (reads.name ++ codes ": ") reads.text (codes "\n");
}

module _ (seen : TheoremsAreSeen) (unique : SequentsAreUnambiguous) where
  -- a line is read as one sequent
  reads-same : (theory : Theory) (line : List ℕ) (a b : List NamedTerm × NamedTerm) → ReadsAsTheorem theory line a → ReadsAsTheorem theory line b → a ≡ b
  reads-same theory line a b one other =
      let texts = text-same one.name other.name one.text other.text one.named other.named (sym one.spelled ∙ other.spelled) in
      reading-same unique (scope_over theory) other.text a b (subst (λ (t : List ℕ). ReadsSequent (scope_over theory) t a) texts one.read) other.read

  pub lines-tell : LinesTellTheirSequents
  lines-tell texts theory line sequent told reads =
      let is = seen.are_theorems texts theory line (reads-begins theory line sequent reads) told in
      subst (IsTrueOver theory) (reads-same theory line (is.theorem.hypotheses, is.theorem.conclusion) sequent (theorem-reads theory line is) reads) (theorem-true theory line is)

  pub no_line-falsity : NoLineIsFalsity → NoLineReadsAsFalsity
  no_line-falsity none texts theory line sequent later told reads alone falsity =
      let is = seen.are_theorems texts theory line (reads-begins theory line sequent reads) told in
      let same = reads-same theory line (is.theorem.hypotheses, is.theorem.conclusion) sequent (theorem-reads theory line is) reads in
      none theory line later is (ap (λ (s : List NamedTerm × NamedTerm). s.0) same ∙ alone) (ap (λ (s : List NamedTerm × NamedTerm). image s.1) same ∙ falsity)

  pub written-true : WrittenLinesAreTold → WrittenTheoremsAreTrue
  written-true written input before after unwritten tells line there whole begins =
      let later = written input before after unwritten tells line there whole in
      let is = seen.are_theorems tells.pieces later.now line begins later.told in
      let sequent : List NamedTerm × NamedTerm = (is.theorem.hypotheses, is.theorem.conclusion) in
      let reads = theorem-reads later.now line is in
      record {
        theory = later.now;
        grown = later.grown;
        sequent = sequent;
        reads = reads;
        only = λ other read. reads-same later.now line other sequent read reads;
        is_true = theorem-true later.now line is;
      }
