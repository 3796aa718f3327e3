-- What is answered for small logs: the claims, or the line and the cause.
use Rattle.std.specs.Prelude.{◌≡◌, ℕ, List, [], ◌∷◌, ◌++◌, Result, Ok, Err, codes, map}
use Rattle.hol_model.specs.declared.fault.Cause.{Cause}
use Rattle.hol_model.specs.declared.fault.Cause.TheVariants.{Header, Cut, Shape, Number, Name, Kind, Const, Rule, Claim, End}
use Rattle.hol_model.specs.Logs.LogText.{LogOutcome, log_outcome}
use Rattle.hol_model.specs.Logs.LogClaims.{claim_text}
use Rattle.hol_logtext.specs.LogBytes.{log_text}

abbrev pub printed : LogOutcome → Result (List (List ℕ)) (ℕ × Cause)
printed (Ok state) = Ok (map claim_text state.claims)
printed (Err refusal) = Err refusal

abbrev pub answer : List ℕ → Result (List (List ℕ)) (ℕ × Cause)
answer bytes = printed (log_outcome (log_text bytes))

-- one reflexivity, up to its terms
abbrev pub front : List ℕ
front = codes "holp-log 1\ny b\nt v x 0\nk REFL 0\ny f 0 0\ny f 0 1\nt c = 2\nt a 1 0\nt a 2 0\n"

-- the same for a declared constant, from its type on
abbrev pub declared : List ℕ
declared = codes "y n num\nnc zero 0\nt c zero 0\nk REFL 0\ny b\ny f 0 1\ny f 0 2\nt c = 3\nt a 1 0\nt a 2 0\nc a 0 3\nend 1\n"

pub record SmallLogs : Type 0 where
  pub accepted : answer (front ++ codes "c a 0 3\nend 1\n") ≡ Ok (codes "a: |- (([=:bool->bool->bool] (x:bool)) (x:bool))" ∷ [])
  pub without_last_byte : answer (front ++ codes "c a 0 3\nend 1") ≡ Err (11, Cut)
  pub without_end : answer (front ++ codes "c a 0 3\n") ≡ Err (11, End)
  pub other_claim : answer (front ++ codes "c a 0 0\nend 1\n") ≡ Err (10, Claim)
  pub claimed_twice : answer (front ++ codes "c a 0 3\nc a 0 3\nend 2\n")
      ≡ Ok (codes "a: |- (([=:bool->bool->bool] (x:bool)) (x:bool))" ∷ codes "a: |- (([=:bool->bool->bool] (x:bool)) (x:bool))" ∷ [])
  pub middle_differs : answer (codes "holp-log 1\ny b\nt v x 0\nt v y 0\nk REFL 0\nk REFL 1\nk TRANS 0 1\n") ≡ Err (7, Rule)
  pub nothing_earlier : answer (codes "holp-log 1\ny b\nt v x 0\nk REFL 0\nk TRANS 0 1\n") ≡ Err (5, Number)
  pub declared_constant : answer (codes "holp-log 2\nny num\n" ++ declared) ≡ Ok (codes "a: |- (([=:num->num->bool] [zero:num]) [zero:num])" ∷ [])
  pub second_version_alone : answer (codes "holp-log 1\nny num\n" ++ declared) ≡ Err (2, Shape)
  pub undeclared_type : answer (codes "holp-log 2\n" ++ declared) ≡ Err (2, Kind)
  pub no_line : answer [] ≡ Err (1, Header)
  pub other_first_line : answer (codes "holp-log") ≡ Err (1, Header)
  pub header_cut : answer (codes "holp-log 1") ≡ Err (1, Cut)
  pub header_alone : answer (codes "holp-log 1\n") ≡ Err (2, End)
  pub no_claim : answer (codes "holp-log 1\nend 0\n") ≡ Ok []
  pub behind_the_end : answer (codes "holp-log 1\nend 0\ny b\n") ≡ Err (3, End)
  pub blank_behind_the_end : answer (codes "holp-log 1\nend 0\n\n") ≡ Err (3, Shape)
  pub abstraction_of_nothing : answer (codes "holp-log 1\ny v A\nt v x 0\nk ABS 0 0\n") ≡ Err (4, Number)
  pub ordered_hypotheses : answer (codes "holp-log 1\ny b\nt v q 0\nt v p 0\nk ASSUME 0\nk ASSUME 1\nk DEDUCT 0 1\ny f 0 0\ny f 0 1\nt c = 2\nt a 2 0\nt a 3 1\nc r 2 4 1 0 1\nend 1\n")
      ≡ Ok (codes "r: (p:bool), (q:bool) |- (([=:bool->bool->bool] (q:bool)) (p:bool))" ∷ [])
  pub other_number_of_claims : answer (codes "holp-log 1\nend 1\n") ≡ Err (2, End)
  pub small_type_variable : answer (codes "holp-log 1\ny v a\n") ≡ Err (2, Name)
  pub no_instance : answer (codes "holp-log 1\ny b\nt c = 0\n") ≡ Err (3, Const)
  pub known_name : answer (codes "holp-log 1\ny b\nt v x 0\nk DEF = 0\n") ≡ Err (4, Name)
  pub open_definition : answer (codes "holp-log 1\ny b\nt v x 0\nk DEF a 0\n") ≡ Err (4, Rule)
  pub arguments_misfit : answer (codes "holp-log 1\ny b\nt v x 0\nk REFL 0\nk MK_COMB 0 0\n") ≡ Err (5, Kind)
  pub no_equation : answer (codes "holp-log 1\ny b\nt v x 0\nk ASSUME 0\nk MK_COMB 0 0\n") ≡ Err (5, Rule)
  pub redex_of_another_variable : answer (codes "holp-log 1\ny b\nt v y 0\nt l 0 0\nt v x 0\nt a 1 2\nk BETA 3\nend 0\n") ≡ Ok []
  pub redex_with_its_argument_free : answer (codes "holp-log 1\ny b\nt v y 0\nt v x 0\nt l 0 1\nt a 2 1\nk BETA 3\n") ≡ Err (7, Rule)
