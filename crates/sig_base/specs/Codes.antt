-- The codes of refusals: each number has one name.
use Rattle.std.specs.Prelude.{ℕ, Bool, ◌==◌, if◌then◌else◌, List, [], ◌∷◌, ◌++◌, codes, Option, Some, None, unwrap_or, is_some}

-- the name that a table gives to a number
abbrev pub name_in : List (ℕ × List ℕ) → ℕ → Option (List ℕ)
name_in [] code = None
name_in (row ∷ rows) code = if code == row.0 then Some row.1 else name_in rows code

-- files, YAML, schemas, events, modifiers and values
abbrev pub reading_codes : List (ℕ × List ℕ)
reading_codes =
    (1, codes "NotUtf8") ∷
    (2, codes "TooLarge") ∷
    (3, codes "Unsupported") ∷
    (4, codes "Syntax") ∷
    (5, codes "DuplicateKey") ∷
    (6, codes "TooDeep") ∷
    (7, codes "TooManyDocuments") ∷
    (8, codes "Tab") ∷
    (9, codes "BadEscape") ∷
    (10, codes "NotBuilt") ∷
    (20, codes "SchemaJson") ∷
    (21, codes "SchemaShape") ∷
    (22, codes "SchemaRepeat") ∷
    (23, codes "SchemaLimit") ∷
    (24, codes "SchemaNoTime") ∷
    (25, codes "EventJson") ∷
    (26, codes "EventKind") ∷
    (27, codes "EventRange") ∷
    (28, codes "EventNul") ∷
    (29, codes "NoMoment") ∷
    (30, codes "LineTooLong") ∷
    (31, codes "TooMuch") ∷
    (40, codes "UnknownModifier") ∷
    (41, codes "ChainNotAllowed") ∷
    (42, codes "ValueNotAllowed") ∷
    (43, codes "WildcardInEncoding") ∷
    (44, codes "BadNetwork") ∷
    (45, codes "NumberRange") ∷
    (46, codes "TooManyDashes") ∷
    (47, codes "RegexSyntax") ∷
    (48, codes "RegexRefused") ∷
    (49, codes "ValueTooLong") ∷
    (50, codes "NulInValue") ∷
    []

-- conditions, rules and pipelines
abbrev pub rule_codes : List (ℕ × List ℕ)
rule_codes =
    (60, codes "ConditionSyntax") ∷
    (61, codes "OldAggregation") ∷
    (62, codes "ConditionDepth") ∷
    (63, codes "UnknownName") ∷
    (64, codes "NothingTaken") ∷
    (70, codes "MissingKey") ∷
    (71, codes "WrongShape") ∷
    (72, codes "BadTitle") ∷
    (73, codes "BadId") ∷
    (74, codes "BadDate") ∷
    (75, codes "BadStatus") ∷
    (76, codes "BadLevel") ∷
    (77, codes "EmptyDetection") ∷
    (78, codes "EmptyList") ∷
    (79, codes "TooManyValues") ∷
    (80, codes "KindConflict") ∷
    (81, codes "UnknownField") ∷
    (82, codes "KindMismatch") ∷
    (83, codes "NoSearchField") ∷
    (84, codes "NotOneRule") ∷
    (90, codes "PipelineShape") ∷
    (91, codes "UnknownStep") ∷
    (92, codes "UnknownCondition") ∷
    (93, codes "RepeatedId") ∷
    (95, codes "RuleFailure") ∷
    (96, codes "ItemFailure") ∷
    (97, codes "EmptiedDetection") ∷
    (98, codes "OpenPlaceholder") ∷
    (99, codes "Grown") ∷
    []

-- trees, queries, correlations, and what stands beside rules
abbrev pub query_codes : List (ℕ × List ℕ)
query_codes =
    (110, codes "TooManyLeaves") ∷
    (111, codes "Lacks") ∷
    (112, codes "QueryTooDeep") ∷
    (113, codes "TooManyClauses") ∷
    (114, codes "QueryTooLong") ∷
    (120, codes "SqlSyntax") ∷
    (121, codes "SqlOutside") ∷
    (122, codes "SqlUnknownColumn") ∷
    (123, codes "SqlKind") ∷
    (124, codes "SqlDepth") ∷
    (125, codes "SqlPattern") ∷
    (130, codes "LuceneSyntax") ∷
    (131, codes "LuceneOutside") ∷
    (132, codes "LuceneUnknownField") ∷
    (133, codes "LuceneKind") ∷
    (134, codes "LuceneMixed") ∷
    (135, codes "LuceneDepth") ∷
    (140, codes "CorrelationShape") ∷
    (141, codes "UnknownRule") ∷
    (142, codes "BadTimespan") ∷
    (143, codes "BadAlias") ∷
    (144, codes "UnknownGroupField") ∷
    (145, codes "OutOfOrder") ∷
    (146, codes "CorrelationHere") ∷
    (150, codes "OldShape") ∷
    (151, codes "OldFunction") ∷
    (152, codes "OldSyntax") ∷
    (153, codes "NoTimeframe") ∷
    (154, codes "NoReference") ∷
    (160, codes "DslJson") ∷
    (161, codes "DslShape") ∷
    (162, codes "DslUnknownField") ∷
    (163, codes "DslDepth") ∷
    (164, codes "DslKind") ∷
    (170, codes "FilterShape") ∷
    (180, codes "FmtTooLong") ∷
    []

abbrev pub code_names : List (ℕ × List ℕ)
code_names = reading_codes ++ (rule_codes ++ query_codes)

-- the name of a code, and nothing for a number that is none
abbrev pub code_name : ℕ → List ℕ
code_name code = unwrap_or (name_in code_names code) []

abbrev pub is_code : ℕ → Bool
is_code code = is_some (name_in code_names code)
