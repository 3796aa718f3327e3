-- Conversions whose calls are made over a library that grows.
use Rattle.std.proofs.Common.{◌≡◌, ℕ, ◌+◌, ◌<◌, ◌≤◌, List, [], true, false, refl, sym, subst, arith, Result, Ok, Err, IfOk, IsSome}
use Rattle.hol_model.specs.declared.fault.Fault.{Fault}
use Rattle.hol_model.specs.declared.fault.Fault.TheVariants.{Memory}
use Rattle.hol_model.specs.declared.limits.TheConstants.{DESCENTS_LIMIT}
use Rattle.hol_model.specs.Terms.NamedTerm.{NamedTerm, variable, constant, combination, abstraction}
use Rattle.hol_model.specs.Logic.Theory.{Theory}
use Rattle.hol_model.specs.Logic.KnownTerm.{is_known}
use Rattle.hol_model.specs.Kernel.Theorem.{Theorem}
use Rattle.hol_model.specs.Kernel.Rules.{dest_equation}
use Rattle.hol_model.specs.Goals.Replays.{Store}
use Rattle.hol_model.specs.Refining.HostFunctions.{HostConversions}
use Rattle.hol_model.specs.Refining.Conversions as conv
use Rattle.hol_model.specs.Refining.Conversions.{Conversion, Conversions, more, one_more, all_conv, thenc, orelsec, repeatc, try_conv, changed_conv}
use Rattle.hol_model.specs.Refining.Conversions.{rand_conv, rator_conv, abs_conv, sub_conv, depth_conv, once_depth_conv, top_depth_conv}
use Rattle.hol_model.specs.Refining.Conversions.{Converts, is_caught, of_argument, of_function, of_body, of_parts, if_changed, lacks_part}
use Rattle.hol_laws_refiners.specs.Laws.{IsEquationOf}
use Rattle.hol_laws_refiners.proofs.Equations.{conversions-answer-equations}
use Rattle.hol_laws_refiners.proofs.Repeating.{IsFinal, onto, JoinedSoFar, joined_defined, joined_tried}
use Rattle.hol_laws_refiners.proofs.Chains.{ThencSoFar}
use Rattle.hol_laws_refiners.proofs.Spending.{converts-spends}
use Rattle.hol_journal.specs.Journal.{Recorded, theorem_in}
use Rattle.hol_theorem_library.specs.Library.{IsContinued, store_in}
use Rattle.hol_theorem_library.specs.declared.library.Library.{Library}
use Rattle.hol_conv.specs.Makes.{Joins, IsRightSide}
use Rattle.hol_conv.specs.declared.converted.Converted.{Converted}
use Rattle.hol_conv.specs.Converted.{theorem_of, answered, IsAnswerOf, MakesAnswer}
use Rattle.hol_conv.specs.Answers.{ConvertsOver, AnswersOver, top_depth_again, rest_of_top_depth}
use Rattle.hol_conv.specs.Parts.{AreParts, AreBoundParts}
use Rattle.hol_conv.specs.Chains.{Tries, Links, IsExtended, proved_by}
use Rattle.hol_conv.specs.declared.chain.Chain.{Chain}
use Rattle.hol_conv.specs.declared.chain.Linked.TheVariants.{GoesOn, Ends}
use Rattle.hol_conv.specs.declared.chain.Linked.{Linked}
use Rattle.hol_conv.proofs.Answering.{argument-answers, function-answers, body-answers, parts-answer, tries, then-answers, thenc-goes, thenc-stops, onto-equation, unless-memory}
use Rattle.hol_conv.proofs.Linking.{links-on, links-end, links-stop, costs}
use Rattle.hol_conv.proofs.Asking.{carried-answer, side-before, continued-twice}

-- the same for what a call answers
abbrev pub AnswersAt : Theory → Store → HostConversions → ℕ → ℕ → Conversion → NamedTerm → Result Converted Fault → ℕ → Type 0
AnswersAt theory store hosts depth steps c t result left = Converts theory store hosts depth steps c t (answered theory t result) left

joins-later : {old new : Library} (outcome answer : Theory → Result Theorem Fault) → IsContinued old new → Joins (outcome new.recorder.theory) (answer new.recorder.theory)
    → Joins (outcome old.recorder.theory) (answer old.recorder.theory)
joins-later outcome answer continued joins = subst (λ (theory : Theory). Joins (outcome theory) (answer theory)) continued.theory joins

-- the theorem of an answer
pub theorem-answers : {old new : Library} {hosts : HostConversions} {depth steps left : ℕ} {c : Conversion} {t : NamedTerm} (answer : Result Converted Fault) (result : Result Recorded Fault)
    → AnswersOver old hosts depth steps c t answer left → IsContinued old new → Joins (answered new.recorder.theory t answer) (theorem_in result) → ConvertsOver old hosts depth steps c t result left
theorem-answers {old} {new} {hosts} {t} answer result r continued joins =
    unless-memory _ _ _ (joins-later (λ theory. answered theory t answer) (λ theory. theorem_in result) continued joins) (converts-spends _ _ _ r) r

-- ---- parts

pub argument-arm : {old new : Library} {hosts : HostConversions} {depth steps left : ℕ} {c : Conversion} {t f x : NamedTerm}
    {part : Result Converted Fault} (result : Result Converted Fault) → AreParts t depth f x
    → AnswersOver old hosts (depth + 1) steps c x part left → MakesAnswer old new x part
    → Joins (of_argument new.recorder.theory f (answered new.recorder.theory x part)) (answered new.recorder.theory t result)
    → AnswersOver old hosts depth steps (rand_conv c) t result left
argument-arm {t} {f} {x} {part} result parts r makes joins =
    argument-answers _ _ _ parts r (joins-later (λ theory. of_argument theory f (answered theory x part)) (λ theory. answered theory t result) makes.continued joins)

pub function-arm : {old new : Library} {hosts : HostConversions} {depth steps left : ℕ} {c : Conversion} {t f x : NamedTerm}
    {part : Result Converted Fault} (result : Result Converted Fault) → AreParts t depth f x
    → AnswersOver old hosts (depth + 1) steps c f part left → MakesAnswer old new f part
    → Joins (of_function new.recorder.theory x (answered new.recorder.theory f part)) (answered new.recorder.theory t result)
    → AnswersOver old hosts depth steps (rator_conv c) t result left
function-arm {t} {f} {x} {part} result parts r makes joins =
    function-answers _ _ _ parts r (joins-later (λ theory. of_function theory x (answered theory f part)) (λ theory. answered theory t result) makes.continued joins)

pub body-arm : {old new : Library} {hosts : HostConversions} {depth steps left : ℕ} {c : Conversion} {t binder body : NamedTerm} {part : Result Converted Fault} (result : Result Converted Fault)
    (parts : AreBoundParts t depth binder body) → AnswersOver old hosts (depth + 1) steps c body part left → MakesAnswer old new body part
    → Joins (of_body new.recorder.theory parts.name parts.ty (answered new.recorder.theory body part)) (answered new.recorder.theory t result)
    → AnswersOver old hosts depth steps (abs_conv c) t result left
body-arm {t} {body} {part} result parts r makes joins =
    body-answers _ _ _ parts r (joins-later (λ theory. of_body theory parts.name parts.ty (answered theory body part)) (λ theory. answered theory t result) makes.continued joins)

pub parts-arm : {old mid new : Library} {hosts : HostConversions} {depth steps left after : ℕ} {c : Conversion} {t f x : NamedTerm}
    {first : Converted} {second : Result Converted Fault} (result : Result Converted Fault)
    → combination f x ≡ t → depth < DESCENTS_LIMIT → AnswersOver old hosts (depth + 1) steps c f (Ok first) left → MakesAnswer old mid f (Ok first)
    → AnswersOver mid hosts (depth + 1) left c x second after → MakesAnswer mid new x second
    → Joins (of_parts new.recorder.theory (Ok (theorem_of new.recorder.theory f first)) (answered new.recorder.theory x second)) (answered new.recorder.theory t result)
    → AnswersOver old hosts depth steps (sub_conv c) t result after
parts-arm {t} {f} {x} {first} {second} result is room r one s two joins =
    parts-answer _ _ _ is room r (carried-answer second one.continued s)
    (joins-later (λ theory. of_parts theory (Ok (theorem_of theory f first)) (answered theory x second)) (λ theory. answered theory t result) (continued-twice one.continued two.continued) joins)

-- ---- ALL_CONV behind a refusal

tried : {old new : Library} {hosts : HostConversions} {depth steps mid left : ℕ} {c : Conversion} {t : NamedTerm}
    (made result : Result Converted Fault) → AnswersOver old hosts depth steps c t made mid
    → IsContinued old new → Tries new.recorder.theory t (answered new.recorder.theory t made) mid (answered new.recorder.theory t result) left
    → AnswersOver old hosts depth steps (orelsec c (one_more all_conv)) t result left
tried {old} {mid} {left} {t} made result r continued is =
    tries _ _ _ (answered old.recorder.theory t made) r (subst (λ (theory : Theory). Tries theory t (answered theory t made) mid (answered theory t result) left) continued.theory is)

pub try-arm : {old new : Library} {hosts : HostConversions} {depth steps mid left : ℕ} {c : Conversion} {t : NamedTerm} {made : Result Converted Fault} (result : Result Converted Fault)
    → AnswersOver old hosts depth steps c t made mid → MakesAnswer old new t made → Tries new.recorder.theory t (answered new.recorder.theory t made) mid (answered new.recorder.theory t result) left
    → AnswersOver old hosts depth steps (try_conv c) t result left
try-arm {made} result r makes is = conv.converts_as_defined refl (tried made result r makes.continued is)

pub once-arm : {old mid new : Library} {hosts : HostConversions} {depth steps first second left : ℕ} {whole c : Conversion} {t : NamedTerm} {fault : Fault} {made : Result Converted Fault}
    (result : Result Converted Fault) → whole ≡ once_depth_conv c → AnswersOver old hosts depth steps c t (Err fault) first → is_caught fault ≡ true → MakesAnswer old mid t (Err fault)
    → AnswersOver mid hosts depth first (sub_conv whole) t made second → MakesAnswer mid new t made
    → Tries new.recorder.theory t (answered new.recorder.theory t made) second (answered new.recorder.theory t result) left
    → AnswersOver old hosts depth steps whole t result left
once-arm {old} {hosts} {depth} {steps} {first} {second} {left} {c} {t} {made} result whole_is r caught one s two is =
    let s = subst (λ (w : Conversion). AnswersOver old hosts depth first (sub_conv w) t made second) whole_is (carried-answer made one.continued s) in
    subst (λ (w : Conversion). AnswersOver old hosts depth steps w t result left) (sym whole_is)
    (conv.converts_as_defined refl (conv.first_is_caught r caught (tried made result s (continued-twice one.continued two.continued) is)))

pub once-answers : {theory : Theory} {store : Store} {hosts : HostConversions} {depth steps left : ℕ} {whole c : Conversion} {t : NamedTerm} (made : Converted) → whole ≡ once_depth_conv c
    → AnswersAt theory store hosts depth steps c t (Ok made) left → AnswersAt theory store hosts depth steps whole t (Ok made) left
once-answers {theory} {store} {hosts} {depth} {steps} {left} {t} made whole_is r =
    subst (λ (w : Conversion). AnswersAt theory store hosts depth steps w t (Ok made) left) (sym whole_is) (conv.converts_as_defined refl (conv.first_answers r))

pub once-stops : {theory : Theory} {store : Store} {hosts : HostConversions} {depth steps left : ℕ} {whole c : Conversion} {t : NamedTerm} {fault : Fault} → whole ≡ once_depth_conv c
    → Converts theory store hosts depth steps c t (Err fault) left → is_caught fault ≡ false → Converts theory store hosts depth steps whole t (Err fault) left
once-stops {theory} {store} {hosts} {depth} {steps} {left} {t} {fault} whole_is r passes =
    subst (λ (w : Conversion). Converts theory store hosts depth steps w t (Err fault) left) (sym whole_is) (conv.converts_as_defined refl (conv.first_is_not_caught r passes))

-- ---- DEPTH_CONV

pub depth-arm : {old mid new : Library} {hosts : HostConversions} {depth steps first left : ℕ} {whole c : Conversion} {t right : NamedTerm} {below : Converted} {here : Result Converted Fault}
    (result : Result Converted Fault) → whole ≡ depth_conv c → AnswersOver old hosts depth steps (sub_conv whole) t (Ok below) first → MakesAnswer old mid t (Ok below)
    → IsRightSide (theorem_of mid.recorder.theory t below) right → AnswersOver mid hosts depth first (repeatc c) right here left → MakesAnswer mid new right here
    → Joins (onto new.recorder.theory (theorem_of new.recorder.theory t below) (answered new.recorder.theory right here)) (answered new.recorder.theory t result)
    → AnswersOver old hosts depth steps whole t result left
depth-arm {old} {hosts} {depth} {steps} {first} {left} {c} {t} {right} {below} {here} result whole_is r one side s two joins =
    let r = subst (λ (w : Conversion). AnswersOver old hosts depth steps (sub_conv w) t (Ok below) first) whole_is r in
    let joins = joins-later (λ theory. onto theory (theorem_of theory t below) (answered theory right here)) (λ theory. answered theory t result) (continued-twice one.continued two.continued) joins in
    subst (λ (w : Conversion). AnswersOver old hosts depth steps w t result left) (sym whole_is)
    (conv.converts_as_defined refl (then-answers _ _ _ (answered old.recorder.theory right here) r (side-before t below one.continued side).is (carried-answer here one.continued s) joins))

pub depth-stops : {theory : Theory} {store : Store} {hosts : HostConversions} {depth steps left : ℕ} {whole c : Conversion} {t : NamedTerm} {fault : Fault} → whole ≡ depth_conv c
    → Converts theory store hosts depth steps (sub_conv whole) t (Err fault) left → Converts theory store hosts depth steps whole t (Err fault) left
depth-stops {theory} {store} {hosts} {depth} {steps} {left} {t} {fault} whole_is r =
    let r = subst (λ (w : Conversion). Converts theory store hosts depth steps (sub_conv w) t (Err fault) left) whole_is r in
    subst (λ (w : Conversion). Converts theory store hosts depth steps w t (Err fault) left) (sym whole_is) (conv.converts_as_defined refl (conv.first_is_refused r))

-- ---- chains

-- THENC, from an answer so far
pub thenc-on : {old now mid : Library} {hosts : HostConversions} {depth first steps left : ℕ} {whole c : Conversion} {cs : Conversions} {t right : NamedTerm} {next : Result Converted Fault}
    (made joined : Converted) → ThencSoFar old.recorder.theory (store_in old) hosts depth first whole t steps (theorem_of old.recorder.theory t made) (more c cs) → IsContinued old now
    → IsRightSide (theorem_of now.recorder.theory t made) right → AnswersOver now hosts depth steps c right next left → MakesAnswer now mid right next
    → Joins (onto mid.recorder.theory (theorem_of mid.recorder.theory t made) (answered mid.recorder.theory right next)) (Ok (theorem_of mid.recorder.theory t joined))
    → ThencSoFar old.recorder.theory (store_in old) hosts depth first whole t left (theorem_of old.recorder.theory t joined) cs
thenc-on {old} {t} {right} {next} made joined so_far before side r makes joins =
    thenc-goes _ _ _ (answered old.recorder.theory right next) so_far (side-before t made before side).is (carried-answer next before r)
    (joins-later (λ theory. onto theory (theorem_of theory t made) (answered theory right next)) (λ theory. Ok (theorem_of theory t joined)) (continued-twice before makes.continued) joins)

pub thenc-off : {old now mid : Library} {hosts : HostConversions} {depth first steps left : ℕ} {whole c : Conversion} {cs : Conversions}
    {t right : NamedTerm} {fault : Fault} {next : Result Converted Fault}
    (made : Converted) → ThencSoFar old.recorder.theory (store_in old) hosts depth first whole t steps (theorem_of old.recorder.theory t made) (more c cs) → IsContinued old now
    → IsRightSide (theorem_of now.recorder.theory t made) right → AnswersOver now hosts depth steps c right next left → MakesAnswer now mid right next
    → Joins (onto mid.recorder.theory (theorem_of mid.recorder.theory t made) (answered mid.recorder.theory right next)) (Err fault)
    → Converts old.recorder.theory (store_in old) hosts depth first whole t (Err fault) left
thenc-off {old} {t} {right} {fault} {next} made so_far before side r makes joins =
    thenc-stops _ _ _ (answered old.recorder.theory right next) so_far (side-before t made before side).is (carried-answer next before r)
    (joins-later (λ theory. onto theory (theorem_of theory t made) (answered theory right next)) (λ theory. Err fault) (continued-twice before makes.continued) joins)

-- what is answered behind it is an equation
pub thenc-equation : {old now mid : Library} {right : NamedTerm} {next : Result Converted Fault} (t : NamedTerm) (made joined : Converted) → IsContinued old now → MakesAnswer now mid right next
    → Joins (onto mid.recorder.theory (theorem_of mid.recorder.theory t made) (answered mid.recorder.theory right next)) (Ok (theorem_of mid.recorder.theory t joined))
    → IsSome (dest_equation (theorem_of old.recorder.theory t joined).conclusion)
thenc-equation {old} {right} {next} t made joined before makes joins =
    onto-equation old.recorder.theory (theorem_of old.recorder.theory t made) (answered old.recorder.theory right next) (theorem_of old.recorder.theory t joined)
    (joins-later (λ theory. onto theory (theorem_of theory t made) (answered theory right next)) (λ theory. Ok (theorem_of theory t joined)) (continued-twice before makes.continued) joins)

links-later : {old new : Library} (from : Chain) (t : NamedTerm) (made : Result Converted Fault) (steps left : ℕ) (linked : Linked) → IsContinued old new
    → Links new.recorder.theory (proved_by new.recorder.theory from) t from.current (answered new.recorder.theory from.current made) steps linked left
    → Links old.recorder.theory (proved_by old.recorder.theory from) t from.current (answered old.recorder.theory from.current made) steps linked left
links-later from t made steps left linked continued links =
    subst (λ (theory : Theory). Links theory (proved_by theory from) t from.current (answered theory from.current made) steps linked left) continued.theory links

-- REPEATC and TOP_DEPTH_CONV, from a chain
pub link-on : {old now mid : Library} {hosts : HostConversions} {depth first steps left : ℕ} {whole c d : Conversion} {t : NamedTerm}
    {made : Result Converted Fault} (from : Chain) (after : ℕ) (chain : Chain)
    → JoinedSoFar old.recorder.theory (store_in old) hosts depth first whole t steps (thenc c (one_more d)) (proved_by old.recorder.theory from) from.current → IsContinued old now
    → AnswersOver now hosts depth steps c from.current made left → MakesAnswer now mid from.current made
    → Links mid.recorder.theory (proved_by mid.recorder.theory from) t from.current (answered mid.recorder.theory from.current made) left (GoesOn chain) after
    → JoinedSoFar old.recorder.theory (store_in old) hosts depth first whole t after d (proved_by old.recorder.theory chain) chain.current
link-on {old} {left} {t} {made} from after chain so_far before r makes links =
    links-on _ _ _ _ (answered old.recorder.theory from.current made) chain so_far (carried-answer made before r)
    (links-later from t made left after (GoesOn chain) (continued-twice before makes.continued) links)

pub link-off : {old now mid : Library} {hosts : HostConversions} {depth first steps left : ℕ} {whole c d : Conversion} {t : NamedTerm}
    {made : Result Converted Fault} (from : Chain) (after : ℕ) (result : Result Converted Fault)
    → JoinedSoFar old.recorder.theory (store_in old) hosts depth first whole t steps (orelsec (thenc c (one_more d)) (one_more all_conv)) (proved_by old.recorder.theory from) from.current
    → IsContinued old now → is_known now.recorder.theory from.current ≡ true → AnswersOver now hosts depth steps c from.current made left → MakesAnswer now mid from.current made
    → Links mid.recorder.theory (proved_by mid.recorder.theory from) t from.current (answered mid.recorder.theory from.current made) left (Ends result) after
    → AnswersOver old hosts depth first whole t result after × IsFinal (answered old.recorder.theory t result)
link-off {old} {left} {t} {made} from after result so_far before known r makes links =
    let known = subst (λ (theory : Theory). is_known theory from.current ≡ true) before.theory known in
    links-end _ _ _ _ (answered old.recorder.theory from.current made) result known so_far (carried-answer made before r)
    (links-later from t made left after (Ends result) (continued-twice before makes.continued) links)

pub link-stop : {old now mid : Library} {hosts : HostConversions} {depth first steps left : ℕ} {whole c d : Conversion} {t : NamedTerm}
    {made : Result Converted Fault} (from : Chain) (after : ℕ) (result : Result Converted Fault)
    → JoinedSoFar old.recorder.theory (store_in old) hosts depth first whole t steps (thenc c (one_more d)) (proved_by old.recorder.theory from) from.current
    → IsContinued old now → AnswersOver now hosts depth steps c from.current made left → MakesAnswer now mid from.current made → IsFinal (answered now.recorder.theory from.current made)
    → Links mid.recorder.theory (proved_by mid.recorder.theory from) t from.current (answered mid.recorder.theory from.current made) left (Ends result) after
    → AnswersOver old hosts depth first whole t result after × IsFinal (answered old.recorder.theory t result)
link-stop {old} {left} {t} {made} from after result so_far before r makes final links =
    let final = subst (λ (theory : Theory). IsFinal (answered theory from.current made)) before.theory final in
    links-stop _ _ _ _ (answered old.recorder.theory from.current made) result so_far (carried-answer made before r) final
    (links-later from t made left after (Ends result) (continued-twice before makes.continued) links)

-- REPEATC, from its first try
pub first-off : {old mid : Library} {hosts : HostConversions} {depth steps left : ℕ} {c : Conversion} {t : NamedTerm} {fault : Fault} (after : ℕ) (result : Result Converted Fault)
    → is_known old.recorder.theory t ≡ true → AnswersOver old hosts depth steps c t (Err fault) left → IsContinued old mid
    → Tries mid.recorder.theory t (Err fault) left (answered mid.recorder.theory t result) after
    → AnswersOver old hosts depth steps (repeatc c) t result after × IsFinal (answered old.recorder.theory t result)
first-off {old} {hosts} {depth} {steps} {left} {c} {t} {fault} after result known r continued is =
    let start : JoinedSoFar old.recorder.theory (store_in old) hosts depth steps (repeatc c) t steps (repeatc c) [] t = record { decides = λ answer rest final s. (s, final) } in
    let so_far = joined_defined _ _ _ _ refl start in
    let is = subst (λ (theory : Theory). Tries theory t (Err fault) left (answered theory t result) after) continued.theory is in
    links-end _ _ _ _ (Err fault) result known so_far r is

pub first-on : {old mid : Library} {hosts : HostConversions} {depth steps left : ℕ} {c : Conversion} {t : NamedTerm} (made : Converted) (chain : Chain)
    → AnswersOver old hosts depth steps c t (Ok made) left → IsContinued old mid → IsExtended mid.recorder.theory [] (theorem_of mid.recorder.theory t made) chain
    → JoinedSoFar old.recorder.theory (store_in old) hosts depth steps (repeatc c) t left (repeatc c) (proved_by old.recorder.theory chain) chain.current
first-on {old} {hosts} {depth} {steps} {left} {c} {t} made chain r continued is =
    let start : JoinedSoFar old.recorder.theory (store_in old) hosts depth steps (repeatc c) t steps (repeatc c) [] t = record { decides = λ answer rest final s. (s, final) } in
    let so_far = joined_tried _ _ _ _ (joined_defined _ _ _ _ refl start) in
    let is = subst (λ (theory : Theory). IsExtended theory [] (theorem_of theory t made) chain) continued.theory is in
    links-on _ _ _ _ (Ok (theorem_of old.recorder.theory t made)) chain so_far r (is, refl)

-- what is linked has cost a step
pub link-costs : {theory : Theory} {store : Store} {hosts : HostConversions} {depth steps left : ℕ} {c : Conversion} {current : NamedTerm}
    (other : Theory) (proved : List Theorem) (t : NamedTerm) (after : ℕ)
    (made : Result Converted Fault) (chain : Chain) → AnswersAt theory store hosts depth steps c current made left
    → Links other proved t current (answered other current made) left (GoesOn chain) after
    → after < steps
link-costs {steps} other proved t after (Ok made) chain r links = subst (λ (n : ℕ). n < steps) (sym links.1) (costs r)
link-costs other proved t after (Err fault) chain r links = absurd links

-- what is answered is an equation
answer-equation : {theory : Theory} {store : Store} {hosts : HostConversions} {depth steps left : ℕ} {c : Conversion} {t : NamedTerm} (made : Result Converted Fault)
    → AnswersAt theory store hosts depth steps c t made left → IfOk made (λ made. IsEquationOf t (theorem_of theory t made))
answer-equation {theory} {store} {hosts} {depth} {steps} {left} {c} {t} (Ok made) r = conversions-answer-equations hosts theory store depth steps left c t (theorem_of theory t made) r
answer-equation (Err fault) r = tt

pub link-equations : {old new : Library} {hosts : HostConversions} {depth steps left : ℕ} {c : Conversion} {t : NamedTerm} (made : Result Converted Fault) → IsContinued old new
    → AnswersOver old hosts depth steps c t made left → IfOk made (λ made. IsEquationOf t (theorem_of new.recorder.theory t made))
link-equations {t} made continued r =
    subst (λ (theory : Theory). IfOk made (λ made. IsEquationOf t (theorem_of theory t made))) (sym continued.theory) (answer-equation made r)

-- CHANGED_CONV
pub changed-arm : {theory : Theory} {store : Store} {hosts : HostConversions} {depth steps left : ℕ} {c : Conversion} {t : NamedTerm} (made result : Result Converted Fault)
    → AnswersAt theory store hosts depth steps c t made left → answered theory t result ≡ if_changed t (answered theory t made)
    → AnswersAt theory store hosts depth steps (changed_conv c) t result left
changed-arm made result r is = conv.converts_if_changed r is

pub changed-makes : {old new : Library} {t : NamedTerm} (made result : Result Converted Fault) → MakesAnswer old new t made → IfOk result (λ same. made ≡ Ok same) → MakesAnswer old new t result
changed-makes {old} {new} {t} made result makes is = record { library = makes.library; continued = makes.continued; made = go result is }
  where
    go : (result : Result Converted Fault) → IfOk result (λ same. made ≡ Ok same) → IfOk result (IsAnswerOf new t)
    go (Ok found) is = subst (λ (made : Result Converted Fault). IfOk made (IsAnswerOf new t)) is makes.made
    go (Err fault) is = tt

-- TOP_DEPTH_CONV
pub top-below : {theory : Theory} {store : Store} {hosts : HostConversions} {depth steps left : ℕ} {whole c : Conversion} {t : NamedTerm} (made : Result Converted Fault) → whole ≡ top_depth_conv c
    → AnswersAt theory store hosts depth steps (sub_conv whole) t made left → AnswersAt theory store hosts depth steps (sub_conv (top_depth_conv c)) t made left
top-below {theory} {store} {hosts} {depth} {steps} {left} {t} made is r = subst (λ (w : Conversion). AnswersAt theory store hosts depth steps (sub_conv w) t made left) is r

pub top-refused : {theory : Theory} {store : Store} {hosts : HostConversions} {depth steps left : ℕ} {whole c : Conversion} {t : NamedTerm} {fault : Fault} → whole ≡ top_depth_conv c
    → Converts theory store hosts depth steps (repeatc c) t (Err fault) left → Converts theory store hosts depth steps whole t (Err fault) left
top-refused {theory} {store} {hosts} {depth} {steps} {left} {t} {fault} is r =
    subst (λ (w : Conversion). Converts theory store hosts depth steps w t (Err fault) left) (sym is) (conv.converts_as_defined refl (conv.first_is_refused r))

-- where nothing below changes
pub top-tried : {old new : Library} {hosts : HostConversions} {depth steps mid left : ℕ} {whole c : Conversion} {t : NamedTerm} {fault : Fault} {under : Result Converted Fault}
    (last : Result Converted Fault) → whole ≡ top_depth_conv c → AnswersOver old hosts depth steps (sub_conv whole) t under mid → MakesAnswer old new t under
    → Err fault ≡ if_changed t (answered old.recorder.theory t under) → Tries new.recorder.theory t (Err fault) mid (answered new.recorder.theory t last) left
    → AnswersOver old hosts depth steps (rest_of_top_depth c) t last left
top-tried {c} {fault} {under} last whole_is r makes is tries =
    let refused = changed-arm under (Err fault) (top-below under whole_is r) is in
    try-arm {c = thenc (changed_conv (sub_conv (top_depth_conv c))) (one_more (top_depth_again c))} {made = Err fault} last
    (conv.first_is_refused refused) (changed-makes under (Err fault) makes tt) tries

pub top-ends : {old mid new : Library} {hosts : HostConversions} {depth steps first left : ℕ} {whole c : Conversion} {t right : NamedTerm} {begun : Converted}
    (last result : Result Converted Fault) → whole ≡ top_depth_conv c → AnswersOver old hosts depth steps (repeatc c) t (Ok begun) first → MakesAnswer old mid t (Ok begun)
    → IsRightSide (theorem_of mid.recorder.theory t begun) right → AnswersOver mid hosts depth first (rest_of_top_depth c) right last left → IsContinued mid new
    → Joins (onto new.recorder.theory (theorem_of new.recorder.theory t begun) (answered new.recorder.theory right last)) (answered new.recorder.theory t result)
    → AnswersOver old hosts depth steps whole t result left
top-ends {old} {hosts} {depth} {steps} {left} {t} {right} {begun} last result whole_is r one side s continued joins =
    let joins = joins-later (λ theory. onto theory (theorem_of theory t begun) (answered theory right last)) (λ theory. answered theory t result) (continued-twice one.continued continued) joins in
    subst (λ (w : Conversion). AnswersOver old hosts depth steps w t result left) (sym whole_is)
    (conv.converts_as_defined refl (then-answers _ _ _ (answered old.recorder.theory right last) r (side-before t begun one.continued side).is (carried-answer last one.continued s) joins))

-- where something does
pub top-on : {old mid : Library} {hosts : HostConversions} {depth steps left : ℕ} {whole c : Conversion} {t : NamedTerm} (under : Result Converted Fault) (found : Converted) (chain : Chain)
    → whole ≡ top_depth_conv c → AnswersOver old hosts depth steps (sub_conv whole) t under left → Ok (theorem_of old.recorder.theory t found) ≡ if_changed t (answered old.recorder.theory t under)
    → IsContinued old mid → IsExtended mid.recorder.theory [] (theorem_of mid.recorder.theory t found) chain
    → JoinedSoFar old.recorder.theory (store_in old) hosts depth steps (rest_of_top_depth c) t left (top_depth_again c) (proved_by old.recorder.theory chain) chain.current
top-on {old} {hosts} {depth} {steps} {whole} {c} {t} under found chain whole_is r is continued extends =
    let start : JoinedSoFar old.recorder.theory (store_in old) hosts depth steps (rest_of_top_depth c) t steps (rest_of_top_depth c) [] t = record { decides = λ answer rest final s. (s, final) } in
    let so_far = joined_tried _ _ _ _ (joined_defined _ _ _ _ refl start) in
    let below = changed-arm under (Ok found) (top-below under whole_is r) is in
    let extends = subst (λ (theory : Theory). IsExtended theory [] (theorem_of theory t found) chain) continued.theory extends in
    links-on _ _ _ _ (Ok (theorem_of old.recorder.theory t found)) chain so_far below (extends, refl)

pub as-conv : {theory : Theory} {store : Store} {hosts : HostConversions} {depth steps left : ℕ} {c d : Conversion} {t : NamedTerm} {answer : Result Theorem Fault} → c ≡ d
    → Converts theory store hosts depth steps d t answer left → Converts theory store hosts depth steps c t answer left
as-conv {theory} {store} {hosts} {depth} {steps} {left} {t} {answer} is r = subst (λ (c : Conversion). Converts theory store hosts depth steps c t answer left) (sym is) r

pub sub-as-abs : {theory : Theory} {store : Store} {hosts : HostConversions} {depth steps left : ℕ} {c : Conversion} (t : NamedTerm) (made : Result Converted Fault) → lacks_part (abs_conv c) t ≡ false
    → AnswersAt theory store hosts depth steps (abs_conv c) t made left → AnswersAt theory store hosts depth steps (sub_conv c) t made left
sub-as-abs (abstraction name ty body) made has r = conv.only_part_converts r
sub-as-abs (variable name ty) made has r = cc
sub-as-abs (constant name ty) made has r = cc
sub-as-abs (combination f x) made has r = cc

pub starved-at : {theory : Theory} {store : Store} {hosts : HostConversions} {depth : ℕ} {c : Conversion} {t : NamedTerm} {fault : Fault} (steps : ℕ) → fault ≡ Memory
    → Converts theory store hosts depth steps c t (Err fault) steps
starved-at {theory} {store} {hosts} {depth} {c} {t} steps is =
    let le : steps ≤ steps = omega arith in
    subst (λ (fault : Fault). Converts theory store hosts depth steps c t (Err fault) steps) (sym is) (conv.finds_no_memory le)

-- behind what is answered
pub starved-behind : (old : Library) {hosts : HostConversions} {depth steps left : ℕ} {c whole : Conversion} {t : NamedTerm} {fault : Fault} (made : Result Converted Fault)
    → AnswersOver old hosts depth steps c t made left → fault ≡ Memory → Converts old.recorder.theory (store_in old) hosts depth steps whole t (Err fault) left
starved-behind old {hosts} {depth} {steps} {left} {whole} {t} made r is =
    let le : left ≤ steps = converts-spends _ _ _ r in
    subst (λ (fault : Fault). Converts old.recorder.theory (store_in old) hosts depth steps whole t (Err fault) left) (sym is) (conv.finds_no_memory le)
