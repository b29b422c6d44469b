-- Tests that are read are lawful.
use Rattle.std.proofs.Common.{ℕ, List, [], Ok, None, Err}
use Rattle.std.specs.Prelude.{All, IfOk, Result, unwrap_or}
use Rattle.std.proofs.lemmas.List.Elements.{All-nil}
use Rattle.serde_json.specs.Data.{Data}
use Rattle.json_tables.specs.declared.message.Message.TheVariants as messages
use Rattle.json_tables.specs.Names as name
use Rattle.json_walk.specs.declared.refusal.Kind.TheVariants.{Missing}
use Rattle.json_walk.specs.declared.refusal.ReadFail.{ReadFail}
use Rattle.json_walk.specs.Outcome.{Gives}
use Rattle.json_walk.specs.Members.{members_at}
use Rattle.json_walk.specs.Fields.{optional, required}
use Rattle.json_walk.specs.Leaves.{text, list_of}
use Rattle.cfg_types.specs.Lawful.{IsLawfulHeader}
use Rattle.cfg_types.specs.declared.rules.HeaderRule.{HeaderRule}
use Rattle.read_match.specs.Headers.{header_matcher}
use Rattle.read_match.proofs.LawfulRules.{of_header}
use Rattle.test_read.specs.declared.test.Expect.{Expect}
use Rattle.test_read.specs.declared.test.Test.{Test}
use Rattle.test_read.specs.Inputs.{input}
use Rattle.test_read.specs.Validation.{expects_nothing, expecting, both_header_rules, validate}
use Rattle.test_read.specs.Tests.{test_entry, test_file}
use Rattle.test_read.specs.Lawful.{IsLawfulTest}
use Rattle.json_walk.proofs.ReadFacts.{Reads, after, whatever, where_false, of_outcome, of_optional, of_required, of_list}
use Rattle.test_read.proofs.InputFacts.{IsInput, of_input}

-- the rules on headers that are expected are lawful
pub record HasLawfulRules (e : Expect) : Type 0 where
  pub of_request : All IsLawfulHeader e.request_header_matches
  pub of_response : All IsLawfulHeader e.response_header_matches

of_expecting : (p : List ℕ) (e : Expect) → HasLawfulRules e → IfOk (expecting p e) HasLawfulRules
unfolding expecting
of_expecting p e h = where_false (expects_nothing e) (Ok e) p Missing HasLawfulRules (λ _. h)

-- the rules on headers, of the request and of the response
abbrev AreLawful : List HeaderRule × List HeaderRule → Type 0
AreLawful rules = All IsLawfulHeader rules.0 × All IsLawfulHeader rules.1

rules_of : (p n : List ℕ) (d : Data) → IfOk (optional p d n (list_of None header_matcher)) (λ o. All IsLawfulHeader (unwrap_or o []))
rules_of p n d = of_optional p d n (list_of None header_matcher) [] (All IsLawfulHeader) (All-nil IsLawfulHeader) (of_list None header_matcher IsLawfulHeader of_header)

of_rules : Reads AreLawful both_header_rules
unfolding both_header_rules
of_rules p d =
    after (optional p d name.request_header_matches (list_of None header_matcher)) _ (λ o. All IsLawfulHeader (unwrap_or o [])) AreLawful (rules_of p name.request_header_matches d) (λ request q.
    after (optional p d name.response_header_matches (list_of None header_matcher)) _ (λ o. All IsLawfulHeader (unwrap_or o [])) AreLawful (rules_of p name.response_header_matches d) (λ response r. (q, r)))

of_validate : Reads HasLawfulRules validate
unfolding validate
of_validate p d =
    whatever (members_at messages.Validate p d) _ HasLawfulRules (λ _. whatever (optional p d name.cluster_name text) _ HasLawfulRules (λ cluster. whatever (optional p d name.virtual_cluster_name text) _ HasLawfulRules (λ virtual_cluster. whatever (optional p d name.virtual_host_name text) _ HasLawfulRules (λ host. whatever (optional p d name.host_rewrite text) _ HasLawfulRules (λ authority. whatever (optional p d name.path_rewrite text) _ HasLawfulRules (λ target. whatever (optional p d name.path_redirect text) _ HasLawfulRules (λ url.
    after (both_header_rules p d) _ AreLawful HasLawfulRules (of_rules p d) (λ rules l.
    of_expecting p _ (record { of_request = l.0; of_response = l.1 })))))))))

of_test : Reads IsLawfulTest test_entry
unfolding test_entry
of_test p d =
    whatever (members_at messages.Test p d) _ IsLawfulTest (λ _. whatever (required p d name.test_name text) _ IsLawfulTest (λ called.
    after (required p d name.input input) _ IsInput IsLawfulTest (of_required p d name.input input IsInput of_input) (λ asked i.
    after (required p d name.validate validate) _ HasLawfulRules IsLawfulTest (of_required p d name.validate validate HasLawfulRules of_validate) (λ expect e. record {
      valid = i.valid;
      request = i.request.few;
      response = i.response.few;
      headers = i.response.valid;
      of_request = e.of_request;
      of_response = e.of_response;
    }))))

of_file : Reads (All IsLawfulTest) test_file
unfolding test_file
of_file p d =
    whatever (members_at messages.TestFile p d) _ (All IsLawfulTest) (λ _.
    of_required p d name.tests (list_of None test_entry) (All IsLawfulTest) (of_list None test_entry IsLawfulTest of_test))

pub of_file_given : (r : Result (List Test) ReadFail) (p : List ℕ) (d : Data) → Gives (λ ts. ts) r (test_file p d) → IfOk r (All IsLawfulTest)
of_file_given (Ok ts) p d e = of_outcome (test_file p d) ts (All IsLawfulTest) e (of_file p d)
of_file_given (Err e) p d g = tt
